-- Every call of the prover, after any calls from a fresh session, gives what document 01 expects of it by these calls.
--
-- repeated-told                            the test of 13 is the one by the last begin
-- phase-told, closed-told, points-told, leaf-told      the tests of 12 and 11 are those by the calls since then
-- begin-number, points-number, leaf-number the number is the first of document 01's order whose condition holds
-- points-gives, leaf-gives                 messages 3 and 5 are of the last begin's x, salt and root and of the points call's message 2
-- told-by-calls                            number, output and work area
-- number-told                              the number alone
-- repeated-after                           13 is decided by the last begin carried out
use Rattle.std.specs.Prelude.{◌≡◌, refl, Bool, true, ◌&&◌, ◌||◌, not, List, [], ◌∷◌, ℕ, ◌+◌, leb, length, replicate, take, drop, Ok}
use Rattle.std.proofs.Common.{sym, subst, ◌∙◌, take_at}
use Rattle.std.proofs.Math.Path.{ap}
use Rattle.std.proofs.Math.Bool.{false}
use Rattle.std.proofs.lemmas.Bool.{false≢true}
use Rattle.std.proofs.Math.Option.{Option, none, some}
use Rattle.lists.specs.Part.{put_at}
use Rattle.lists.specs.Zeroed.{zeroed}
use Rattle.lists.specs.Checks.{all_true}
use Rattle.answers.specs.Number.{answer_number}
use Rattle.answers.specs.Order.{Conditions, holds, first_of, answer_of}
use Rattle.parameters.specs.Limits.{within_limits}
use Rattle.relation.specs.Key.{weight_of}
use Rattle.layout.specs.Layout.{work_length}
use Rattle.layout.specs.Maxima.{most_messages2}
use Rattle.layout.specs.Runs.{runs_within, messages2_length}
use Rattle.exchange.specs.Values.{Key}
use Rattle.runs.specs.Messages.{message3, message5}
use Rattle.runs.specs.Points.{distinct_points}
use Rattle.prover_phase.specs.declared.Phase.{Phase}
use Rattle.calls.specs.Lengths.{begin_lengths, points_lengths, leaf_lengths, leaves_below}
use Rattle.calls.specs.Held.{is_some, told}
use Rattle.calls.specs.Prover.{Prover, fresh, held_message2, closed, points_due, leaf_due, repeated, is_begun, is_answered, is_closed, padded, begin_checks, points_checks, leaf_checks, answered, opened}
use Rattle.calls.specs.Prover as prover
use Rattle.calls.specs.Prover.History.{Begin, Call, begin_call, points_call, leaf_call, Made, outcome, after, made, last_begin, points_since, leaf_since, secret_of, repeats, conditions, message, area, Seen, seen, expected}
use Rattle.calls.proofs.Prover.Checked.{begin-ordered, points-ordered, leaf-ordered}
use Rattle.calls.proofs.Prover.Settled.{seen_as_lem}
use Rattle.calls.proofs.Prover.Reached.{Orderly, unstarted, started, challenged, session_told, reached, standing-told, secret-held, points-begun, leaf-answered}

-- ---- 11 and 12 before all others

-- before the first begin 11 is the answer, whatever the message
unstarted-points : (c d : Bool) → answer_of ((12, false) ∷ (11, true) ∷ (2, c) ∷ (14, d) ∷ []) ≡ answer_of ((12, false) ∷ (11, true) ∷ [])
unfolding answer_of first_of holds
unstarted-points c d = refl

unstarted-leaf : (c d : Bool) → answer_of ((12, false) ∷ (11, true) ∷ (2, c) ∷ (4, d) ∷ []) ≡ answer_of ((12, false) ∷ (11, true) ∷ [])
unfolding answer_of first_of holds
unstarted-leaf c d = refl

-- 12 stands before 11
closed-first : (l b c d : Bool) → answer_of ((12, l) ∷ (11, l || b) ∷ (2, c) ∷ (4, d) ∷ []) ≡ answer_of ((12, l) ∷ (11, b) ∷ (2, c) ∷ (4, d) ∷ [])
unfolding answer_of first_of holds
closed-first true b c d = refl
closed-first false b c d = refl

-- ---- the tests

repeated-told : (o : Option Begin) (q : Option (List ℕ)) (l : Bool) → Orderly o q l → (salt root : List ℕ)
    → repeated (session_told o q l) salt root ≡ repeats o salt root
unfolding repeated repeats fresh
repeated-told o q l unstarted salt root = refl
repeated-told o q l (started b ok) salt root = refl
repeated-told o q l (challenged b m2 true ok e) salt root = refl
repeated-told o q l (challenged b m2 false ok e) salt root = refl

-- once closed the leaf call is not due either, but 12 stands before 11
phase-told : (o : Option Begin) (q : Option (List ℕ)) (l : Bool) → Orderly o q l → (is_closed (session_told o q l).phase ≡ l)
    × (not (is_begun (session_told o q l).phase) ≡ (not (is_some o) || is_some q))
    × (not (is_answered (session_told o q l).phase) ≡ (l || (not (is_some o) || not (is_some q))))
unfolding fresh
phase-told o q l unstarted = (refl, refl, refl)
phase-told o q l (started b ok) = (refl, refl, refl)
phase-told o q l (challenged b m2 true ok e) = (refl, refl, refl)
phase-told o q l (challenged b m2 false ok e) = (refl, refl, refl)

closed-told : (o : Option Begin) (q : Option (List ℕ)) (l : Bool) → Orderly o q l → closed (session_told o q l) ≡ l
unfolding closed
closed-told o q l ok = ap is_closed (standing-told o q l ok) ∙ (phase-told o q l ok).0

points-told : (o : Option Begin) (q : Option (List ℕ)) (l : Bool) → Orderly o q l
    → not (points_due (session_told o q l)) ≡ (not (is_some o) || is_some q)
unfolding points_due
points-told o q l ok = ap (λ (f : Phase). not (is_begun f)) (standing-told o q l ok) ∙ (phase-told o q l ok).1

leaf-told : (o : Option Begin) (q : Option (List ℕ)) (l : Bool) → Orderly o q l
    → not (leaf_due (session_told o q l)) ≡ (l || (not (is_some o) || not (is_some q)))
unfolding leaf_due
leaf-told o q l ok = ap (λ (f : Phase). not (is_answered f)) (standing-told o q l ok) ∙ (phase-told o q l ok).2

-- ---- the numbers

module _ (hash : List ℕ → ℕ → List ℕ) (o : Option Begin) (q : Option (List ℕ)) (l : Bool) (ok : Orderly o q l) where
  abbrev s : Prover
  s = session_told o q l

  begin-number : (b : Begin) (work out : List ℕ)
      → answer_number (begin_checks hash s b.parameters b.runs b.x_a b.salt b.root b.key work out)
      ≡ answer_of ((1, not (within_limits b.parameters && runs_within b.runs))
      ∷ (2, not (all_true (begin_lengths b.parameters b.runs b.x_a b.salt b.root b.key work out)))
      ∷ (3, not (leb (weight_of (secret_of b)) b.parameters.w))
      ∷ (13, repeats o b.salt b.root) ∷ [])
  begin-number b work out = begin-ordered hash s work out b ∙ rw (repeated-told o q l ok b.salt b.root)

  module _ (m2 : List ℕ) (key : Key) (work out : List ℕ) where
    abbrev points_by : Option Begin → Option (List ℕ) → Bool → Conditions
    points_by o q l =
        (12, l)
        ∷ (11, not (is_some o) || is_some q)
        ∷ told o []
        (λ b. (2, not (all_true (points_lengths b.parameters b.runs m2 key work out))) ∷ (14, not (distinct_points b.parameters b.runs m2)) ∷ [])

    points-due : (o : Option Begin) (q : Option (List ℕ)) (l : Bool) → Orderly o q l
        → answer_of ((12, l) ∷ (11, not (is_some o) || is_some q)
        ∷ (2, not (all_true (points_lengths (session_told o q l).parameters (session_told o q l).runs m2 key work out)))
        ∷ (14, not (distinct_points (session_told o q l).parameters (session_told o q l).runs m2)) ∷ []) ≡ answer_of (points_by o q l)
    points-due o q l unstarted = unstarted-points _ _
    points-due o q l (started b ok) = refl
    points-due o q l (challenged b m l' ok e) = refl

    points-number : answer_number (points_checks hash s m2 key work out) ≡ answer_of (points_by o q l)
    points-number = points-ordered hash s work out key m2 ∙ rw (closed-told o q l ok, points-told o q l ok) (points-due o q l ok)

  module _ (is : List ℕ) (key : Key) (work out : List ℕ) where
    abbrev leaf_by : Option Begin → Option (List ℕ) → Bool → Conditions
    leaf_by o q l =
        (12, l)
        ∷ (11, not (is_some o) || not (is_some q))
        ∷ told o []
        (λ b. (2, not (all_true (leaf_lengths b.parameters b.runs is key work out))) ∷ (4, not (leaves_below b.parameters is)) ∷ [])

    leaf-due : (o : Option Begin) (q : Option (List ℕ)) (l : Bool) → Orderly o q l
        → answer_of ((12, l) ∷ (11, not (is_some o) || not (is_some q))
        ∷ (2, not (all_true (leaf_lengths (session_told o q l).parameters (session_told o q l).runs is key work out)))
        ∷ (4, not (leaves_below (session_told o q l).parameters is)) ∷ []) ≡ answer_of (leaf_by o q l)
    leaf-due o q l unstarted = unstarted-leaf _ _
    leaf-due o q l (started b ok) = refl
    leaf-due o q l (challenged b m l' ok e) = refl

    leaf-number : answer_number (leaf_checks hash s is key work out) ≡ answer_of (leaf_by o q l)
    leaf-number =
        leaf-ordered hash s work out key is ∙ rw (closed-told o q l ok, leaf-told o q l ok) (closed-first l _ _ _ ∙ leaf-due o q l ok)

-- ---- what a call that is carried out gives

front : (n : ℕ) (m2 : List ℕ) → length m2 ≡ n → take n (padded most_messages2 m2) ≡ m2
unfolding put_at
front n m2 e = take_at m2 (drop (0 + length m2) (replicate most_messages2 0)) n e

module _ (hash : List ℕ → ℕ → List ℕ) where
  module _ (m2 : List ℕ) (key : Key) (work out : List ℕ) where
    abbrev message3_by : Option Begin → List ℕ
    message3_by o = told o [] (λ b. message3 hash b.parameters b.runs (secret_of b) b.salt b.root key m2)

    message3-of : (b : Begin) {x : List ℕ} → x ≡ secret_of b
        → message3 hash b.parameters b.runs x b.salt b.root key m2 ≡ message3_by (some b)
    message3-of b e = ap (λ (x : List ℕ). message3 hash b.parameters b.runs x b.salt b.root key m2) e

    points-gives : (o : Option Begin) (q : Option (List ℕ)) (l : Bool) → Orderly o q l → points_checks hash (session_told o q l) m2 key work out ≡ Ok tt
        → ((answered hash (session_told o q l) m2 key work out).out ≡ message3_by o)
        × ((answered hash (session_told o q l) m2 key work out).work ≡ zeroed (told o 0 (λ b. work_length b.parameters)) work)
    unfolding answered fresh
    points-gives o q l unstarted e = absurd (false≢true (points-begun hash none none false unstarted m2 key work out e))
    points-gives o q l (started b ok) e = (message3-of b (secret-held b ok none false), refl)
    points-gives o q l (challenged b m l' ok s) e = (message3-of b (secret-held b ok (some m) l'), refl)

  module _ (is : List ℕ) (key : Key) (work out : List ℕ) where
    abbrev message5_by : Option Begin → Option (List ℕ) → List ℕ
    message5_by o q =
        told o [] (λ b. told q [] (λ m2. message5 hash b.parameters b.runs (secret_of b) b.salt b.root key m2 is))

    leaf-gives : (o : Option Begin) (q : Option (List ℕ)) (l : Bool) → Orderly o q l → leaf_checks hash (session_told o q l) is key work out ≡ Ok tt
        → ((opened hash (session_told o q l) is key work out).out ≡ message5_by o q)
        × ((opened hash (session_told o q l) is key work out).work ≡ zeroed (told o 0 (λ b. work_length b.parameters)) work)
    unfolding opened held_message2 fresh
    leaf-gives o q l unstarted e = absurd (false≢true (leaf-answered hash none none false unstarted is key work out e))
    leaf-gives o q l (started b ok) e = absurd (false≢true (leaf-answered hash (some b) none false (started b ok) is key work out e))
    leaf-gives o q l (challenged b m l' ok s) e = (rw (secret-held b ok (some m) l', front (messages2_length b.parameters b.runs) m s), refl)

-- ---- number, output and work area

module _ (hash : List ℕ → ℕ → List ℕ) where
  as-expected : (h : List Made) (ok : Orderly (last_begin h) (points_since h) (leaf_since h)) (c : Call)
      → seen (outcome hash (session_told (last_begin h) (points_since h) (leaf_since h)) c) ≡ expected hash h c
  unfolding expected conditions message area prover.begun
  as-expected h ok (begin_call b work out) =
      seen_as_lem hash _ (begin_call b work out) _ _ _ (begin-number hash (last_begin h) (points_since h) (leaf_since h) ok b work out) (λ e. (refl, refl))
  as-expected h ok (points_call m2 key work out) =
      seen_as_lem hash _ (points_call m2 key work out) _ _ _ (points-number hash (last_begin h) (points_since h) (leaf_since h) ok m2 key work out)
      (points-gives hash m2 key work out (last_begin h) (points_since h) (leaf_since h) ok)
  as-expected h ok (leaf_call is key work out) =
      seen_as_lem hash _ (leaf_call is key work out) _ _ _ (leaf-number hash (last_begin h) (points_since h) (leaf_since h) ok is key work out)
      (leaf-gives hash is key work out (last_begin h) (points_since h) (leaf_since h) ok)

  pub told-by-calls : (cs : List Call) (c : Call) → seen (outcome hash (after hash cs) c) ≡ expected hash (made hash cs) c
  told-by-calls cs c =
      let r = reached hash cs in
      subst (λ (s : Prover). seen (outcome hash s c) ≡ expected hash (made hash cs) c) (sym r.session) (as-expected (made hash cs) r.orderly c)

  pub number-told : (cs : List Call) (c : Call) → (outcome hash (after hash cs) c).answer ≡ answer_of (conditions (made hash cs) c)
  unfolding expected
  number-told cs c = ap (λ (o : Seen). o.number) (told-by-calls cs c)

  pub repeated-after : (cs : List Call) (salt root : List ℕ) → repeated (after hash cs) salt root ≡ repeats (last_begin (made hash cs)) salt root
  repeated-after cs salt root =
      let r = reached hash cs in
      ap (λ (s : Prover). repeated s salt root) r.session
      ∙ repeated-told (last_begin (made hash cs)) (points_since (made hash cs)) (leaf_since (made hash cs)) r.orderly salt root
