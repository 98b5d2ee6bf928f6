-- The session that a prover's calls leave, told by these calls.
--
-- Passed b            the begin passed its checks but 13, with some work area and output
-- session_told o q l   the session after the last begin o, the points call q and perhaps a leaf call (l) since then
-- Orderly o q l       what calls that were carried out can tell: a points call after a begin, a leaf call after both; the begin passed its checks
-- Reached h s         s is the session that the calls h tell
-- begin-next, points-next, leaf-next   the session after a call carried out
-- reached             so is the session after any calls from a fresh one
-- secret-held         it holds the x of the last begin
-- guard-idle          its phase is the one that counts: the guard `intact` changes nothing
use Rattle.std.specs.Prelude.{◌≡◌, Bool, ℕ, ◌+◌, replicate, take, drop, Ok}
use Rattle.std.proofs.Math.Path.{refl, ap}
use Rattle.std.proofs.Common.{sym, subst, ◌∙◌, arith}
use Rattle.std.proofs.Math.Bool.{true, false, or-true}
use Rattle.std.proofs.lemmas.Bool.{false≢true}
use mathlib.Core.List.{List, [], ◌∷◌}
use Rattle.std.proofs.Math.Option.{Option, none, some}
use Rattle.std.proofs.Math.Decide.{ℕ_discrete}
use Rattle.std.proofs.Math.ListN.{length}
use Rattle.std.proofs.Math.Seq.{take_at}
use borrow.Author.Tests.{le-leb, eqb-true, eq-eqb, ne_eqb}
use Rattle.lists.specs.Part.{put_at}
use Rattle.lists.specs.Checks.Laws.{all-at}
use Rattle.parameters.specs.Limits.Laws.{within-test}
use Rattle.relation.specs.Key.{weight_of}
use Rattle.relation.proofs.Laws.Key.Vector.{length-vector}
use Rattle.layout.specs.Layout.{y_length}
use Rattle.layout.specs.Maxima.{most_messages2}
use Rattle.layout.specs.Runs.{messages2_length}
use Rattle.layout.specs.Runs.Laws.{within-runs}
use Rattle.exchange.specs.Values.{Key}
use Rattle.prover_phase.specs.declared.Phase.{Phase}
use Rattle.prover_phase.specs.declared.Phase.TheVariants.{Begun, Answered, Closed}
use Rattle.calls.specs.Lengths.{begin_lengths, points_lengths}
use Rattle.calls.specs.Held.{told}
use Rattle.calls.specs.Prover.{Prover, Outcome, fresh, held_x, intact, standing, points_due, leaf_due, padded, is_fresh, is_begun, is_answered, points_checks, leaf_checks, answered, opened}
use Rattle.calls.specs.Prover as prover
use Rattle.calls.specs.Prover.History.{Begin, Call, begin_call, points_call, leaf_call, Made, outcome, after, made, begun, pointed, last_begin, points_since, leaf_since, secret_of}
use Rattle.calls.specs.Prover.History as history
use Rattle.calls.specs.Prover.Checked.{Allowed}
use Rattle.calls.proofs.Prover.Checked.{begin-allowed, points-passed, leaf-passed}
use Rattle.calls.proofs.Prover.Settled.{carried, refused-same}

pub record Passed (b : Begin) : Type 0 where
  pub work : List ℕ
  pub out : List ℕ
  pub allowed : Allowed b work out

abbrev phase_told : Option (List ℕ) → Bool → Phase
phase_told none true = Closed
phase_told none false = Begun
phase_told (some m2) true = Closed
phase_told (some m2) false = Answered

abbrev pub session_told : Option Begin → Option (List ℕ) → Bool → Prover
session_told none q l = fresh
session_told (some b) q l = record {
  phase = phase_told q l;
  parameters = b.parameters;
  runs = b.runs;
  x = padded 255 (secret_of b);
  salt = b.salt;
  root = b.root;
  message2 = told q (replicate most_messages2 0) (padded most_messages2);
}

pub data Orderly : Option Begin → Option (List ℕ) → Bool → Type 0 where
  unstarted : Orderly none none false
  started : (b : Begin) → Passed b → Orderly (some b) none false
  challenged : (b : Begin) (m2 : List ℕ) (l : Bool) → Passed b → length m2 ≡ messages2_length b.parameters b.runs → Orderly (some b) (some m2) l

pub record Reached (h : List Made) (s : Prover) : Type 0 where
  pub session : s ≡ session_told (last_begin h) (points_since h) (leaf_since h)
  pub orderly : Orderly (last_begin h) (points_since h) (leaf_since h)

-- ---- the guard

module _ (b : Begin) (passed : Passed b) where
  secret-length : length (secret_of b) ≡ b.parameters.m
  secret-length =
      let tests = begin_lengths b.parameters b.runs b.x_a b.salt b.root b.key passed.work passed.out in
      let x_a-is = eqb-true (length b.x_a) b.parameters.k (all-at tests passed.allowed.sized 0) in
      let y-is = eqb-true (length b.key.y) (y_length b.parameters) (all-at tests passed.allowed.sized 5) in
      length-vector b.key.matrix b.key.y b.x_a ∙ omega (arith, passed.allowed.within)

  secret-front : take b.parameters.m (padded 255 (secret_of b)) ≡ secret_of b
  unfolding put_at
  secret-front = take_at (secret_of b) (drop (0 + length (secret_of b)) (replicate 255 0)) b.parameters.m secret-length

  pub secret-held : (q : Option (List ℕ)) (l : Bool) → held_x (session_told (some b) q l) ≡ secret_of b
  unfolding held_x
  secret-held q l = secret-front

  intact-told : (q : Option (List ℕ)) (l : Bool) → intact (session_told (some b) q l) ≡ true
  unfolding intact
  intact-told q l =
      let ok = passed.allowed in
      rw (
        secret-held q l,
        within-test b.parameters ok.within,
        within-runs b.runs ok.counted,
        le-leb (weight_of (secret_of b)) b.parameters.w ok.light,
      )

stands : (s : Prover) → intact s ≡ true → standing s ≡ s.phase
unfolding standing
stands s e = rw (e, or-true (is_fresh s.phase))

pub standing-told : (o : Option Begin) (q : Option (List ℕ)) (l : Bool) → Orderly o q l → standing (session_told o q l) ≡ (session_told o q l).phase
unfolding standing fresh
standing-told o q l unstarted = refl
standing-told o q l (started b ok) = stands (session_told (some b) none false) (intact-told b ok none false)
standing-told o q l (challenged b m2 l' ok sized) = stands (session_told (some b) (some m2) l') (intact-told b ok (some m2) l')

-- ---- calls carried out

module _ (hash : List ℕ → ℕ → List ℕ) where
  module _ (o : Option Begin) (q : Option (List ℕ)) (l : Bool) (ok : Orderly o q l) where
    pub points-begun : (m2 : List ℕ) (key : Key) (work out : List ℕ) → points_checks hash (session_told o q l) m2 key work out ≡ Ok tt
        → is_begun (session_told o q l).phase ≡ true
    unfolding points_due
    points-begun m2 key work out e = ap is_begun (sym (standing-told o q l ok)) ∙ (points-passed hash (session_told o q l) work out key m2 e).0

    points-sized : (m2 : List ℕ) (key : Key) (work out : List ℕ) → points_checks hash (session_told o q l) m2 key work out ≡ Ok tt
        → length m2 ≡ messages2_length (session_told o q l).parameters (session_told o q l).runs
    points-sized m2 key work out e =
        let s = session_told o q l in
        let tests = points_lengths s.parameters s.runs m2 key work out in
        eqb-true (length m2) (messages2_length s.parameters s.runs) (all-at tests (points-passed hash s work out key m2 e).1 0)

    pub leaf-answered : (is : List ℕ) (key : Key) (work out : List ℕ) → leaf_checks hash (session_told o q l) is key work out ≡ Ok tt
        → is_answered (session_told o q l).phase ≡ true
    unfolding leaf_due
    leaf-answered is key work out e = ap is_answered (sym (standing-told o q l ok)) ∙ leaf-passed hash (session_told o q l) work out key is e

  begin-next : (s : Prover) (b : Begin) (work out : List ℕ)
      → (prover.begun hash s b.parameters b.runs b.x_a b.salt b.root b.key work out).prover ≡ session_told (some b) none false
  unfolding prover.begun
  begin-next s b work out = refl

  module _ (m2 : List ℕ) (key : Key) (work out : List ℕ) where
    points-next : (o : Option Begin) (q : Option (List ℕ)) (l : Bool) → Orderly o q l → is_begun (session_told o q l).phase ≡ true
        → length m2 ≡ messages2_length (session_told o q l).parameters (session_told o q l).runs
        → ((answered hash (session_told o q l) m2 key work out).prover ≡ session_told o (some m2) l) × Orderly o (some m2) l
    unfolding answered fresh
    points-next o q l unstarted due sized = absurd (false≢true due)
    points-next o q l (started b ok) due sized = (refl, challenged b m2 false ok sized)
    points-next o q l (challenged b m true ok e) due sized = absurd (false≢true due)
    points-next o q l (challenged b m false ok e) due sized = absurd (false≢true due)

  module _ (is : List ℕ) (key : Key) (work out : List ℕ) where
    leaf-next : (o : Option Begin) (q : Option (List ℕ)) (l : Bool) → Orderly o q l → is_answered (session_told o q l).phase ≡ true
        → ((opened hash (session_told o q l) is key work out).prover ≡ session_told o q true) × Orderly o q true
    unfolding opened fresh
    leaf-next o q l unstarted due = absurd (false≢true due)
    leaf-next o q l (started b ok) due = absurd (false≢true due)
    leaf-next o q l (challenged b m l' ok e) due = (refl, challenged b m true ok e)

-- ---- what a call adds to the calls made

module _ (h : List Made) (s : Prover) where
  refused-tells : (c : Call) (n : ℕ) → (n ≡ 0 → ⊥) → Reached h s → Reached (record { call = c; number = n } ∷ h) s
  unfolding begun pointed history.opened last_begin points_since leaf_since
  refused-tells c n e r = record { session = rw (ne_eqb n 0 e) r.session; orderly = rw (ne_eqb n 0 e) r.orderly }

  begin-tells : (b : Begin) (work out : List ℕ) (n : ℕ) → n ≡ 0 → s ≡ session_told (some b) none false → Passed b
      → Reached (record { call = begin_call b work out; number = n } ∷ h) s
  unfolding begun pointed history.opened last_begin points_since leaf_since
  begin-tells b work out n e session ok = record { session = rw (eq-eqb n 0 e) session; orderly = rw (eq-eqb n 0 e) (started b ok) }

  points-tells : (m2 : List ℕ) (key : Key) (work out : List ℕ) (n : ℕ) → n ≡ 0 → s ≡ session_told (last_begin h) (some m2) (leaf_since h)
      → Orderly (last_begin h) (some m2) (leaf_since h) → Reached (record { call = points_call m2 key work out; number = n } ∷ h) s
  unfolding begun pointed history.opened last_begin points_since leaf_since
  points-tells m2 key work out n e session ok = record { session = rw (eq-eqb n 0 e) session; orderly = rw (eq-eqb n 0 e) ok }

  leaf-tells : (is : List ℕ) (key : Key) (work out : List ℕ) (n : ℕ) → n ≡ 0 → s ≡ session_told (last_begin h) (points_since h) true
      → Orderly (last_begin h) (points_since h) true → Reached (record { call = leaf_call is key work out; number = n } ∷ h) s
  unfolding begun pointed history.opened last_begin points_since leaf_since
  leaf-tells is key work out n e session ok = record { session = rw (eq-eqb n 0 e) session; orderly = rw (eq-eqb n 0 e) ok }

-- ---- after any calls

module _ (hash : List ℕ → ℕ → List ℕ) where
  abbrev Next : List Made → Call → Prover → Type 0
  Next h c s = Reached (record { call = c; number = (outcome hash s c).answer } ∷ h) (outcome hash s c).prover

  module _ (h : List Made) (ok : Orderly (last_begin h) (points_since h) (leaf_since h)) where
    abbrev s : Prover
    s = session_told (last_begin h) (points_since h) (leaf_since h)

    carried-next : (c : Call) → (outcome hash s c).answer ≡ 0 → Next h c s
    carried-next (begin_call b work out) e =
        let c = carried hash s (begin_call b work out) e in
        begin-tells h _ b work out _ e (ap (λ (o : Outcome). o.prover) c.1 ∙ begin-next hash s b work out)
        (record { work = work; out = out; allowed = begin-allowed hash s work out b c.0 })
    carried-next (points_call m2 key work out) e =
        let c = carried hash s (points_call m2 key work out) e in
        let due = points-begun hash (last_begin h) (points_since h) (leaf_since h) ok m2 key work out c.0 in
        let sized = points-sized hash (last_begin h) (points_since h) (leaf_since h) ok m2 key work out c.0 in
        let next = points-next hash m2 key work out (last_begin h) (points_since h) (leaf_since h) ok due sized in
        points-tells h _ m2 key work out _ e (ap (λ (o : Outcome). o.prover) c.1 ∙ next.0) next.1
    carried-next (leaf_call is key work out) e =
        let c = carried hash s (leaf_call is key work out) e in
        let due = leaf-answered hash (last_begin h) (points_since h) (leaf_since h) ok is key work out c.0 in
        let next = leaf-next hash is key work out (last_begin h) (points_since h) (leaf_since h) ok due in
        leaf-tells h _ is key work out _ e (ap (λ (o : Outcome). o.prover) c.1 ∙ next.0) next.1

  next : (h : List Made) (c : Call) (s : Prover) → Reached h s → Next h c s
  next h c s r = go (ℕ_discrete (outcome hash s c).answer 0)
    where
      go : Dec ((outcome hash s c).answer ≡ 0) → Next h c s
      go (yes e) =
          subst (λ (t : Prover). (outcome hash t c).answer ≡ 0 → Next h c t) (sym r.session) (carried-next h r.orderly c) e
      go (no e) =
          subst (λ (t : Prover). Reached (record { call = c; number = (outcome hash s c).answer } ∷ h) t)
          (sym (ap (λ (o : Outcome). o.prover) (refused-same hash s c e))) (refused-tells h s c _ e r)

  pub reached : (cs : List Call) → Reached (made hash cs) (after hash cs)
  unfolding after made last_begin points_since leaf_since
  reached [] = record { session = refl; orderly = unstarted }
  reached (c ∷ cs) = next (made hash cs) c (after hash cs) (reached cs)

  -- in every session reached from a fresh one by any calls the guard changes nothing
  pub guard-idle : (cs : List Call) → standing (after hash cs) ≡ (after hash cs).phase
  guard-idle cs =
      let r = reached cs in
      subst (λ (s : Prover). standing s ≡ s.phase) (sym r.session)
      (standing-told (last_begin (made hash cs)) (points_since (made hash cs)) (leaf_since (made hash cs)) r.orderly)
