-- The checks of the prover's calls: from the values of the tests to the answer, and from the answer to what the call gives.
--
-- intact-then, intact-else               is a session intact, once its numbers are within their limits or not
-- closed-test, begun-test, answered-test   what `==` says of the phase that counts
-- begin-row, points-row, leaf-row        the checks of a call from the values of its tests
-- refused-call, done-call                what a call gives where a check failed, and where none did
-- points-ready, leaf-ready               what a session says in which a call but begin is due
-- begin-facts, points-facts, leaf-facts  what the checks that passed say
use Rattle.std.specs.Prelude.{◌≡◌, refl, Bool, true, false, ◌&&◌, ◌||◌, not, cond, List, eqb, leb, length, Ok, Err, IsErrAnd, ⊤}
use Rattle.std.proofs.Math.Path.{sym, ap}
use Rattle.std.proofs.Common.{◌∙◌, true≢false}
use Prim.Native.Nat.{ℕ}
use borrow.Author.Tests.{eqb-true, leb-true}
use Rattle.lists.specs.Checks.{all_true}
use Rattle.lists.specs.Checks.Laws.{all-at, and_left, and_right}
use denote.Enum.Bare.{sameb}
use Rattle.answers.specs.Answer.{Answer}
use Rattle.answers.specs.declared.Refusal.{Refusal}
use Rattle.answers.specs.declared.Refusal.TheVariants.{Parameter, Length, Weight, Leaf, NotDue, Closed as ExchangeClosed, Repeated, SamePoint}
use Rattle.answers.specs.Checks.{check}
use Rattle.answers.specs.Checks.Laws.{check-true, check-rest}
use Rattle.parameters.specs.declared.Parameters.{Parameters}
use Rattle.parameters.specs.Limits.{within_limits}
use Rattle.parameters.specs.Limits.Laws.{test-within}
use Rattle.relation.specs.Key.{weight_of, vector_of}
use Rattle.layout.specs.Runs.{runs_within, messages2_length, messages3_length, messages5_length}
use Rattle.layout.specs.Runs.Laws.{runs-within}
use Rattle.exchange.specs.Values.{Key}
use Rattle.runs.specs.Points.{distinct_points}
use Rattle.layout.specs.Lent.{lent, Lent}
use Rattle.layout.specs.Lent.Laws.{test-lent}
use Rattle.prover.specs.Arguments.{begin_tests, lengths_of}
use Rattle.prover.specs.Arguments.Laws.{limited, begin-sized}
use Rattle.prover_phase.specs.declared.Phase.{Phase}
use Rattle.prover_phase.specs.contracts.Phase.{the_type}
use Rattle.prover_phase.proofs.Laws.Same.{same-begun, same-answered, same-closed}
use Rattle.prover_phase.specs.declared.Phase.TheVariants.{Fresh, Begun, Answered, Closed}
use Rattle.calls.specs.Lengths.{key_lengths, begin_lengths, points_lengths, leaf_lengths, leaves_below}
use Rattle.calls.proofs.Lengths.Laws.{leaves-below}
use Rattle.calls.specs.Prover.{Prover, Outcome, settle, is_fresh, is_begun, is_answered, is_closed, held_x, intact, standing, closed, points_due, leaf_due, repeated, begin_checks, points_checks, leaf_checks}
use Rattle.prover.specs.Facts.{outcome_of, Ready, Begins, Answering, Opening}

-- ---- the session

module _ (s : Prover) where
  abbrev limits : Bool
  limits = within_limits s.parameters && runs_within s.runs

  pub intact-then : limits ≡ true → intact s ≡ leb (weight_of (held_x s)) s.parameters.w
  unfolding intact
  intact-then e = rw (and_left (within_limits s.parameters) (runs_within s.runs) e, and_right (within_limits s.parameters) (runs_within s.runs) e)

  pub intact-else : limits ≡ false → intact s ≡ false
  unfolding intact
  intact-else e = go (within_limits s.parameters) e
    where
      go : (a : Bool) → (a && runs_within s.runs) ≡ false → (a && (runs_within s.runs && leb (weight_of (held_x s)) s.parameters.w)) ≡ false
      go true q = rw q
      go false q = refl

-- ---- the checks as rows

module _ (s : Prover) (f : Phase) (told : f ≡ standing s) where
  pub closed-test : (b : Bool) → b ≡ not (sameb the_type f Closed) → b ≡ not (closed s)
  unfolding closed
  closed-test b e = e ∙ ap not (same-closed f ∙ ap is_closed told)

  pub begun-test : (b : Bool) → b ≡ sameb the_type f Begun → b ≡ points_due s
  unfolding points_due
  begun-test b e = e ∙ same-begun f ∙ ap is_begun told

  pub answered-test : (b : Bool) → b ≡ sameb the_type f Answered → b ≡ leaf_due s
  unfolding leaf_due
  answered-test b e = e ∙ same-answered f ∙ ap is_answered told

module _ (hash : List ℕ → ℕ → List ℕ) (s : Prover) (work out : List ℕ) (key : Key) where
  pub begin-row : (p : Parameters) (runs : ℕ) (x_a salt root : List ℕ) (limits lengths light same : Bool)
      → limits ≡ (within_limits p && runs_within runs)
      → lengths ≡ all_true (begin_tests p runs (length x_a) (length key.matrix) (length key.y) (lengths_of salt root work out))
      → light ≡ leb (weight_of (vector_of key.matrix key.y x_a)) p.w → same ≡ repeated s salt root
      → check limits Parameter (check lengths Length (check light Weight (check (not same) Repeated (Ok tt)))) ≡ begin_checks hash s p runs x_a salt root key work out
  unfolding begin_checks begin_tests
  begin-row p runs x_a salt root limits lengths light same e f g h = rw (e, f, g, h)

  pub points-row : (message2 : List ℕ) (here due lengths distinct : Bool) → here ≡ not (closed s) → due ≡ points_due s
      → lengths ≡ all_true (points_lengths s.parameters s.runs message2 key work out) → distinct ≡ distinct_points s.parameters s.runs message2
      → check here ExchangeClosed (check due NotDue (check lengths Length (check distinct SamePoint (Ok tt)))) ≡ points_checks hash s message2 key work out
  unfolding points_checks
  points-row message2 here due lengths distinct e f g h = rw (e, f, g, h)

  pub leaf-row : (is : List ℕ) (here due lengths below : Bool) → here ≡ not (closed s) → due ≡ leaf_due s
      → lengths ≡ all_true (leaf_lengths s.parameters s.runs is key work out) → below ≡ leaves_below s.parameters is
      → check here ExchangeClosed (check due NotDue (check lengths Length (check below Leaf (Ok tt)))) ≡ leaf_checks hash s is key work out
  unfolding leaf_checks
  leaf-row is here due lengths below e f g h = rw (e, f, g, h)

-- ---- refused, or carried out; a is what the checks answered, x what the call returns

pub refused-call : (a b : Answer) (s : Prover) (out work : List ℕ) (done : Outcome) (x : Answer) {r : Refusal} → a ≡ b → a ≡ Err r → IsErrAnd x (λ y. y ≡ r)
    → outcome_of x s out work ≡ settle b s out work done
refused-call a b s out work done x {r} e f g = go x g
  where
    go : (x : Answer) → IsErrAnd x (λ y. y ≡ r) → outcome_of x s out work ≡ settle b s out work done
    go (Ok _) h = absurd h
    go (Err y) h = rw (h, sym e ∙ f)

pub done-call : (a b : Answer) (s : Prover) (out work : List ℕ) (done : Outcome) {u : ⊤} → a ≡ b → a ≡ Ok u → done ≡ settle b s out work done
done-call a b s out work done e f = rw (sym e ∙ f)

-- ---- what the checks that passed say

intact-ready : (s : Prover) → intact s ≡ true → Ready s
unfolding intact
intact-ready s e =
    let light = leb (weight_of (held_x s)) s.parameters.w in
    let rest = and_right (within_limits s.parameters) (runs_within s.runs && light) e in
    record {
      limits = record {
        within = test-within s.parameters (and_left (within_limits s.parameters) (runs_within s.runs && light) e);
        counted = runs-within s.runs (and_left (runs_within s.runs) light rest);
      };
      light = leb-true (weight_of (held_x s)) s.parameters.w (and_right (runs_within s.runs) light rest);
    }

-- where a call but begin is due, the session is intact
due-intact : (due : Phase → Bool) → due Fresh ≡ false → due Closed ≡ false → (f : Phase) (whole : Bool)
    → due (cond (is_fresh f || whole) f Closed) ≡ true → whole ≡ true
due-intact due e g f true h = refl
due-intact due e g Fresh false h = absurd (true≢false (sym h ∙ e))
due-intact due e g Begun false h = absurd (true≢false (sym h ∙ g))
due-intact due e g Answered false h = absurd (true≢false (sym h ∙ g))
due-intact due e g Closed false h = absurd (true≢false (sym h ∙ g))

pub points-ready : (s : Prover) → points_due s ≡ true → Ready s
unfolding points_due standing
points-ready s e = intact-ready s (due-intact is_begun refl refl s.phase (intact s) e)

pub leaf-ready : (s : Prover) → leaf_due s ≡ true → Ready s
unfolding leaf_due standing
leaf-ready s e = intact-ready s (due-intact is_answered refl refl s.phase (intact s) e)

lent-facts : (p : Parameters) (key : Key) (work : List ℕ) → all_true (key_lengths p key work) ≡ true
    → Lent p (length key.matrix) (length key.y) (length work)
unfolding lent
lent-facts p key work e = test-lent p (length key.matrix) (length key.y) (length work) e

module _ (hash : List ℕ → ℕ → List ℕ) (s : Prover) (work out : List ℕ) (key : Key) where
  module _ (p : Parameters) (runs : ℕ) (x_a salt root : List ℕ) where
    pub begin-facts : (a : Answer) {u : ⊤} → a ≡ begin_checks hash s p runs x_a salt root key work out → a ≡ Ok u
        → Begins p runs x_a salt root key.matrix key.y work out
    unfolding begin_checks begin_tests
    begin-facts a f h =
        let e = sym f ∙ h in
        let tests = begin_lengths p runs x_a salt root key work out in
        let late = check-rest (within_limits p && runs_within runs) Parameter _ e in
        record {
          limits = limited p runs (check-true (within_limits p && runs_within runs) Parameter _ e);
          sized = begin-sized p runs x_a key.matrix key.y (lengths_of salt root work out) (check-true (all_true tests) Length _ late);
          light =
              leb-true _ p.w
              (check-true (leb (weight_of (vector_of key.matrix key.y x_a)) p.w) Weight _ (check-rest (all_true tests) Length _ late));
        }

  pub points-facts : (message2 : List ℕ) (a : Answer) {u : ⊤} → a ≡ points_checks hash s message2 key work out → a ≡ Ok u
      → Answering s message2 key.matrix key.y work out
  unfolding points_checks
  points-facts message2 a f h =
      let e = sym f ∙ h in
      let n : ℕ = messages2_length s.parameters s.runs in
      let k : ℕ = messages3_length s.runs in
      let tests = points_lengths s.parameters s.runs message2 key work out in
      let due = check-rest (not (closed s)) ExchangeClosed _ e in
      let sized = check-true (all_true tests) Length _ (check-rest (points_due s) NotDue _ due) in
      record {
        ready = points-ready s (check-true (points_due s) NotDue _ due);
        message2-is = eqb-true (length message2) n (all-at tests sized 0);
        out-is = eqb-true (length out) k (all-at tests sized 1);
        lent = lent-facts s.parameters key work (and_right (eqb (length out) k) _ (and_right (eqb (length message2) n) _ sized));
      }

  pub leaf-facts : (is : List ℕ) (a : Answer) {u : ⊤} → a ≡ leaf_checks hash s is key work out → a ≡ Ok u
      → Opening s is key.matrix key.y work out
  unfolding leaf_checks
  leaf-facts is a f h =
      let e = sym f ∙ h in
      let n : ℕ = messages5_length s.parameters is in
      let tests = leaf_lengths s.parameters s.runs is key work out in
      let due = check-rest (not (closed s)) ExchangeClosed _ e in
      let late = check-rest (leaf_due s) NotDue _ due in
      let sized = check-true (all_true tests) Length _ late in
      record {
        ready = leaf-ready s (check-true (leaf_due s) NotDue _ due);
        leaves-are = eqb-true (length is) s.runs (all-at tests sized 0);
        below =
            leaves-below s.parameters is
            (check-true (leaves_below s.parameters is) Leaf (Ok tt) (check-rest (all_true tests) Length _ late));
        out-is = eqb-true (length out) n (all-at tests sized 1);
        lent = lent-facts s.parameters key work (and_right (eqb (length out) n) _ (and_right (eqb (length is) s.runs) _ sized));
      }
