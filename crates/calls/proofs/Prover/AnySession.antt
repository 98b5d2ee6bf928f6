-- What holds of every session, be it one that no calls lead to.
--
-- at_most_one                 'at most one response and one opening between two starts of a prover's exchange': among calls of which no begin is
--                             carried out, at most one points call and one leaf call are
-- points-spent, leaf-spent    a call carried out takes from what its session's phase leaves
-- begin-due                   'Begin is due always': neither 11 nor 12
-- damaged, damaged-closed     a session that is neither fresh nor intact counts as closed and answers every other call with 12
-- held-repeats                13 wherever the session is not fresh, damaged or not
use Rattle.std.specs.Prelude.{◌≡◌, refl, Bool, true, false, ◌&&◌, cond, ℕ, ◌+◌, ◌≤◌, Ok}
use Rattle.std.proofs.Common.{sym, ap, ◌∙◌, true≢false}
use Rattle.std.proofs.lemmas.Bool.{false≢true}
use mathlib.Core.List.{List, [], ◌∷◌}
use native.Mathlib.Omega.{arith}
use Rattle.std.proofs.Math.Decide.{ℕ_discrete}
use Rattle.std.proofs.Math.Dec.{eqb}
use borrow.Author.Tests.{le-leb, eq-eqb, ne_eqb}
use Rattle.lists.specs.Equal.Laws.{eq_list-of}
use Rattle.answers.specs.Order.{holds, first_of, answer_of}
use Rattle.parameters.specs.Limits.Laws.{within-test}
use Rattle.relation.specs.Key.{weight_of}
use Rattle.layout.specs.Runs.Laws.{within-runs}
use Rattle.exchange.specs.Values.{Key}
use Rattle.prover_phase.specs.declared.Phase.{Phase}
use Rattle.prover_phase.specs.declared.Phase.TheVariants.{Fresh, Begun, Answered, Closed}
use Rattle.calls.specs.Prover.{Prover, Outcome, intact, standing, closed, points_due, leaf_due, repeated, is_fresh, is_begun, is_answered, begin_checks, points_checks, leaf_checks, answered, opened, begin, points, leaf}
use Rattle.calls.specs.Prover.History.{Begin, Call, begin_call, points_call, leaf_call, secret_of, outcome}
use Rattle.calls.proofs.Prover.Settled.{number-of, carried, refused-same}
use Rattle.calls.specs.Prover.Checked.{Allowed}
use Rattle.calls.proofs.Prover.Checked.{begin-ordered, points-passed, leaf-passed}
use Rattle.calls.specs.Prover.AnySession.{is_begin, is_points, is_leaf, carried_in}

-- ---- begin is due always, and a damaged session is closed

begin-neither : (a b c d : Bool)
    → (answer_of ((1, a) ∷ (2, b) ∷ (3, c) ∷ (13, d) ∷ []) ≡ 11 → ⊥) × (answer_of ((1, a) ∷ (2, b) ∷ (3, c) ∷ (13, d) ∷ []) ≡ 12 → ⊥)
unfolding answer_of first_of holds
begin-neither true b c d = (λ e. omega arith, λ e. omega arith)
begin-neither false true c d = (λ e. omega arith, λ e. omega arith)
begin-neither false false true d = (λ e. omega arith, λ e. omega arith)
begin-neither false false false true = (λ e. omega arith, λ e. omega arith)
begin-neither false false false false = (λ e. omega arith, λ e. omega arith)

damaged : (s : Prover) → is_fresh s.phase ≡ false → intact s ≡ false → closed s ≡ true
unfolding closed standing
damaged s f i = rw (f, i)

module _ (hash : List ℕ → ℕ → List ℕ) where
  pub begin-due : (s : Prover) (b : Begin) (work out : List ℕ)
      → ((outcome hash s (begin_call b work out)).answer ≡ 11 → ⊥) × ((outcome hash s (begin_call b work out)).answer ≡ 12 → ⊥)
  begin-due s b work out =
      let number = number-of hash s (begin_call b work out) ∙ begin-ordered hash s work out b in
      let neither = begin-neither _ _ _ _ in
      (λ e. neither.0 (sym number ∙ e), λ e. neither.1 (sym number ∙ e))

  pub damaged-closed : (s : Prover) → is_fresh s.phase ≡ false → intact s ≡ false → (c : Call) → is_begin c ≡ false → (outcome hash s c).answer ≡ 12
  unfolding outcome points points_checks leaf leaf_checks
  damaged-closed s f i (begin_call b work out) e = absurd (true≢false e)
  damaged-closed s f i (points_call m2 key work out) e = rw (damaged s f i)
  damaged-closed s f i (leaf_call is key work out) e = rw (damaged s f i)

  pub held-repeats : (s : Prover) → is_fresh s.phase ≡ false → (b : Begin) (work out : List ℕ) → Allowed b work out
      → b.salt ≡ s.salt → b.root ≡ s.root → (outcome hash s (begin_call b work out)).answer ≡ 13
  unfolding outcome begin begin_checks repeated
  held-repeats s f b work out ok salts roots =
      simp (
        within-test b.parameters ok.within,
        within-runs b.runs ok.counted,
        ok.sized,
        le-leb (weight_of (secret_of b)) b.parameters.w ok.light,
        f,
        eq_list-of b.salt s.salt salts,
        eq_list-of b.root s.root roots,
      )

-- ---- how many points calls and leaf calls may still be carried out in a phase before a begin is

abbrev points_left : Phase → ℕ
points_left Fresh = 0
points_left Begun = 1
points_left Answered = 0
points_left Closed = 0

abbrev leaves_left : Phase → ℕ
leaves_left Fresh = 0
leaves_left Begun = 1
leaves_left Answered = 1
leaves_left Closed = 0

most-points : (f : Phase) → points_left f ≤ 1
most-points Fresh = omega arith
most-points Begun = omega arith
most-points Answered = omega arith
most-points Closed = omega arith

most-leaves : (f : Phase) → leaves_left f ≤ 1
most-leaves Fresh = omega arith
most-leaves Begun = omega arith
most-leaves Answered = omega arith
most-leaves Closed = omega arith

begun-phase : (f : Phase) → is_begun f ≡ true → f ≡ Begun
begun-phase Fresh e = absurd (false≢true e)
begun-phase Begun e = refl
begun-phase Answered e = absurd (false≢true e)
begun-phase Closed e = absurd (false≢true e)

answered-phase : (f : Phase) → is_answered f ≡ true → f ≡ Answered
answered-phase Fresh e = absurd (false≢true e)
answered-phase Begun e = absurd (false≢true e)
answered-phase Answered e = refl
answered-phase Closed e = absurd (false≢true e)

-- what a points call and a leaf call take, into a session that is intact or not
abbrev Takes : (Phase → ℕ) → ℕ → Phase → Phase → Type 0
Takes left n f g = (t : Bool) → n + left (cond t g Closed) ≤ left f

points-take : Takes points_left 1 Begun Answered
points-take true = omega arith
points-take false = omega arith

points-stay : Takes points_left 0 Answered Closed
points-stay true = omega arith
points-stay false = omega arith

leaves-stay : Takes leaves_left 0 Begun Answered
leaves-stay true = omega arith
leaves-stay false = omega arith

leaves-take : Takes leaves_left 1 Answered Closed
leaves-take true = omega arith
leaves-take false = omega arith

-- ---- a count of the calls carried out

idle : (t : Bool) (n : ℕ) → cond (t && false) 1 0 + n ≤ n
idle true n = omega arith
idle false n = omega arith

none : (b : Bool) (n : ℕ) → cond b 1 0 + n ≡ 0 → (b ≡ false) × (n ≡ 0)
none true n e = absurd (omega arith)
none false n e = (refl, omega arith)

begin-refused : {A : Type 0} (n : ℕ) → eqb n 0 ≡ false → n ≡ 0 → A
begin-refused n h z = absurd (true≢false (sym (eq-eqb n 0 z) ∙ h))

module _ (hash : List ℕ → ℕ → List ℕ) where
  points-begun : (s : Prover) (m2 : List ℕ) (key : Key) (work out : List ℕ) → points_checks hash s m2 key work out ≡ Ok tt → standing s ≡ Begun
  unfolding points_due
  points-begun s m2 key work out e = begun-phase (standing s) (points-passed hash s work out key m2 e).0

  leaf-answered : (s : Prover) (is : List ℕ) (key : Key) (work out : List ℕ) → leaf_checks hash s is key work out ≡ Ok tt → standing s ≡ Answered
  unfolding leaf_due
  leaf-answered s is key work out e = answered-phase (standing s) (leaf-passed hash s work out key is e)

  -- ---- a call takes from what is left

  module _ (left : Phase → ℕ) (kind : Call → Bool) where
    abbrev Spent : Prover → Call → Type 0
    Spent s c = cond (kind c && eqb (outcome hash s c).answer 0) 1 0 + left (standing (outcome hash s c).prover) ≤ left (standing s)

    spent : (s : Prover) (c : Call)
        → ((outcome hash s c).answer ≡ 0 → cond (kind c && true) 1 0 + left (standing (outcome hash s c).prover) ≤ left (standing s)) → Spent s c
    spent s c done = go (ℕ_discrete (outcome hash s c).answer 0)
      where
        go : Dec ((outcome hash s c).answer ≡ 0) → Spent s c
        go (yes e) = rw (eq-eqb (outcome hash s c).answer 0 e) (done e)
        go (no e) =
            rw (ne_eqb (outcome hash s c).answer 0 e, ap (λ (o : Outcome). o.prover) (refused-same hash s c e)) (idle (kind c) (left (standing s)))

    module _ (m2 : List ℕ) (key : Key) (work out : List ℕ) where
      points-spent : (n : ℕ) → Takes left n Begun Answered → (s : Prover) → (outcome hash s (points_call m2 key work out)).answer ≡ 0
          → n + left (standing (outcome hash s (points_call m2 key work out)).prover) ≤ left (standing s)
      unfolding standing answered
      points-spent n takes s e =
          let c = carried hash s (points_call m2 key work out) e in
          rw (c.1, points-begun s m2 key work out c.0) (takes (intact (answered hash s m2 key work out).prover))

    module _ (is : List ℕ) (key : Key) (work out : List ℕ) where
      leaf-spent : (n : ℕ) → Takes left n Answered Closed → (s : Prover) → (outcome hash s (leaf_call is key work out)).answer ≡ 0
          → n + left (standing (outcome hash s (leaf_call is key work out)).prover) ≤ left (standing s)
      unfolding standing opened
      leaf-spent n takes s e =
          let c = carried hash s (leaf_call is key work out) e in
          rw (c.1, leaf-answered s is key work out c.0) (takes (intact (opened hash s is key work out).prover))

    spent_all : ((s : Prover) (c : Call) → (is_begin c && eqb (outcome hash s c).answer 0) ≡ false → Spent s c)
        → (s : Prover) (cs : List Call) → carried_in hash is_begin s cs ≡ 0 → carried_in hash kind s cs ≤ left (standing s)
    unfolding carried_in
    spent_all one s [] h = omega arith
    spent_all one s (c ∷ cs) h =
        let z = none (is_begin c && eqb (outcome hash s c).answer 0) (carried_in hash is_begin (outcome hash s c).prover cs) h in
        let here = one s c z.0 in
        let rest = spent_all one (outcome hash s c).prover cs z.1 in
        omega arith

  spent-points : (s : Prover) (c : Call) → (is_begin c && eqb (outcome hash s c).answer 0) ≡ false → Spent points_left is_points s c
  spent-points s (begin_call b work out) h = spent points_left is_points s (begin_call b work out) (begin-refused _ h)
  spent-points s (points_call m2 key work out) h = spent points_left is_points s (points_call m2 key work out) (points-spent points_left is_points m2 key work out 1 points-take s)
  spent-points s (leaf_call is key work out) h = spent points_left is_points s (leaf_call is key work out) (leaf-spent points_left is_points is key work out 0 points-stay s)

  spent-leaves : (s : Prover) (c : Call) → (is_begin c && eqb (outcome hash s c).answer 0) ≡ false → Spent leaves_left is_leaf s c
  spent-leaves s (begin_call b work out) h = spent leaves_left is_leaf s (begin_call b work out) (begin-refused _ h)
  spent-leaves s (points_call m2 key work out) h = spent leaves_left is_leaf s (points_call m2 key work out) (points-spent leaves_left is_leaf m2 key work out 0 leaves-stay s)
  spent-leaves s (leaf_call is key work out) h = spent leaves_left is_leaf s (leaf_call is key work out) (leaf-spent leaves_left is_leaf is key work out 1 leaves-take s)

  pub at_most_one : (s : Prover) (cs : List Call) → carried_in hash is_begin s cs ≡ 0 → (carried_in hash is_points s cs ≤ 1) × (carried_in hash is_leaf s cs ≤ 1)
  at_most_one s cs h =
      let a = spent_all points_left is_points spent-points s cs h in
      let b = spent_all leaves_left is_leaf spent-leaves s cs h in
      let c = most-points (standing s) in
      let d = most-leaves (standing s) in
      (omega arith, omega arith)
