-- The checks of the prover's calls, in every session, by document 01's order.
--
-- begin-ordered, points-ordered, leaf-ordered   the number is the first of the order whose condition holds
-- begin-by, points-by, leaf-by                  what a number says of the conditions
-- begin-allowed, points-passed, leaf-passed     what checks that pass say
use Rattle.std.specs.Prelude.{◌≡◌, refl, Bool, true, false, ◌&&◌, not, cond, List, [], ◌∷◌, ℕ, leb, Ok}
use Rattle.std.proofs.Common.{sym, ap, ◌∙◌, arith, leb-true}
use Rattle.std.proofs.Math.Bool.{not-not}
use Rattle.std.proofs.lemmas.Bool.{not-false}
use Rattle.lists.specs.Checks.{all_true}
use Rattle.lists.specs.Checks.Laws.{and_left, and_right}
use Rattle.answers.specs.declared.Refusal.TheVariants.{Parameter, Length, Weight, Leaf, NotDue, Closed as ExchangeClosed, Repeated, SamePoint}
use Rattle.answers.specs.Number.{answer_number}
use Rattle.answers.specs.Checks.{checks}
use Rattle.answers.specs.Order.{holds, first_of, answer_of}
use Rattle.answers.specs.Order.Laws.{told, picked, absent, picked-order}
use Rattle.parameters.specs.Limits.{within_limits}
use Rattle.parameters.specs.Limits.Laws.{test-within}
use Rattle.relation.specs.Key.{weight_of}
use Rattle.layout.specs.Runs.{runs_within}
use Rattle.layout.specs.Runs.Laws.{runs-within}
use Rattle.exchange.specs.Values.{Key}
use Rattle.runs.specs.Points.{distinct_points}
use Rattle.calls.specs.Lengths.{begin_lengths, points_lengths, leaf_lengths, leaves_below}
use Rattle.calls.specs.Prover.{Prover, closed, points_due, leaf_due, repeated, begin_checks, points_checks, leaf_checks}
use Rattle.calls.specs.Prover.History.{Begin, secret_of}
use Rattle.calls.specs.Prover.Checked.{Allowed}

-- ---- the order

begin-row : (a b c d : Bool) → answer_number (checks ((a, Parameter) ∷ (b, Length) ∷ (c, Weight) ∷ (d, Repeated) ∷ []))
    ≡ answer_of ((1, not a) ∷ (2, not b) ∷ (3, not c) ∷ (13, not d) ∷ [])
unfolding told picked absent
begin-row a b c d = picked-order ((a, Parameter) ∷ (b, Length) ∷ (c, Weight) ∷ (d, Repeated) ∷ []) refl

points-row : (a b c d : Bool) → answer_number (checks ((a, ExchangeClosed) ∷ (b, NotDue) ∷ (c, Length) ∷ (d, SamePoint) ∷ []))
    ≡ answer_of ((12, not a) ∷ (11, not b) ∷ (2, not c) ∷ (14, not d) ∷ [])
unfolding told picked absent
points-row a b c d = picked-order ((a, ExchangeClosed) ∷ (b, NotDue) ∷ (c, Length) ∷ (d, SamePoint) ∷ []) refl

leaf-row : (a b c d : Bool) → answer_number (checks ((a, ExchangeClosed) ∷ (b, NotDue) ∷ (c, Length) ∷ (d, Leaf) ∷ []))
    ≡ answer_of ((12, not a) ∷ (11, not b) ∷ (2, not c) ∷ (4, not d) ∷ [])
unfolding told picked absent
leaf-row a b c d = picked-order ((a, ExchangeClosed) ∷ (b, NotDue) ∷ (c, Length) ∷ (d, Leaf) ∷ []) refl

module _ (hash : List ℕ → ℕ → List ℕ) (s : Prover) (work out : List ℕ) where
  module _ (b : Begin) where
    pub begin-ordered : answer_number (begin_checks hash s b.parameters b.runs b.x_a b.salt b.root b.key work out)
        ≡ answer_of ((1, not (within_limits b.parameters && runs_within b.runs))
        ∷ (2, not (all_true (begin_lengths b.parameters b.runs b.x_a b.salt b.root b.key work out)))
        ∷ (3, not (leb (weight_of (secret_of b)) b.parameters.w))
        ∷ (13, repeated s b.salt b.root) ∷ [])
    unfolding begin_checks
    begin-ordered =
        begin-row (within_limits b.parameters && runs_within b.runs)
        (all_true (begin_lengths b.parameters b.runs b.x_a b.salt b.root b.key work out))
        (leb (weight_of (secret_of b)) b.parameters.w) (not (repeated s b.salt b.root))
        ∙ rw (not-not (repeated s b.salt b.root))

  module _ (key : Key) where
    pub points-ordered : (m2 : List ℕ) → answer_number (points_checks hash s m2 key work out)
        ≡ answer_of ((12, closed s) ∷ (11, not (points_due s)) ∷ (2, not (all_true (points_lengths s.parameters s.runs m2 key work out)))
        ∷ (14, not (distinct_points s.parameters s.runs m2)) ∷ [])
    unfolding points_checks
    points-ordered m2 =
        points-row (not (closed s)) (points_due s) (all_true (points_lengths s.parameters s.runs m2 key work out))
        (distinct_points s.parameters s.runs m2)
        ∙ rw (not-not (closed s))

    pub leaf-ordered : (is : List ℕ) → answer_number (leaf_checks hash s is key work out)
        ≡ answer_of ((12, closed s) ∷ (11, not (leaf_due s)) ∷ (2, not (all_true (leaf_lengths s.parameters s.runs is key work out)))
        ∷ (4, not (leaves_below s.parameters is)) ∷ [])
    unfolding leaf_checks
    leaf-ordered is =
        leaf-row (not (closed s)) (leaf_due s) (all_true (leaf_lengths s.parameters s.runs is key work out)) (leaves_below s.parameters is)
        ∙ rw (not-not (closed s))

-- ---- what a number says

-- the answer is 13 or 0 only where the first three conditions fail, and by the fourth
pub begin-by : (a b c d e : Bool) → answer_of ((1, a) ∷ (2, b) ∷ (3, c) ∷ (13, d) ∷ []) ≡ cond e 13 0
    → (a ≡ false) × (b ≡ false) × (c ≡ false) × (d ≡ e)
unfolding answer_of first_of holds
begin-by true b c d true q = absurd (omega arith)
begin-by true b c d false q = absurd (omega arith)
begin-by false true c d true q = absurd (omega arith)
begin-by false true c d false q = absurd (omega arith)
begin-by false false true d true q = absurd (omega arith)
begin-by false false true d false q = absurd (omega arith)
begin-by false false false true true q = (refl, refl, refl, refl)
begin-by false false false true false q = absurd (omega arith)
begin-by false false false false true q = absurd (omega arith)
begin-by false false false false false q = (refl, refl, refl, refl)

pub points-by : (a b c d : Bool) → answer_of ((12, a) ∷ (11, b) ∷ (2, c) ∷ (14, d) ∷ []) ≡ 0
    → (a ≡ false) × (b ≡ false) × (c ≡ false) × (d ≡ false)
unfolding answer_of first_of holds
points-by true b c d q = absurd (omega arith)
points-by false true c d q = absurd (omega arith)
points-by false false true d q = absurd (omega arith)
points-by false false false true q = absurd (omega arith)
points-by false false false false q = (refl, refl, refl, refl)

pub leaf-by : (a b c d : Bool) → answer_of ((12, a) ∷ (11, b) ∷ (2, c) ∷ (4, d) ∷ []) ≡ 0
    → (a ≡ false) × (b ≡ false) × (c ≡ false) × (d ≡ false)
unfolding answer_of first_of holds
leaf-by true b c d q = absurd (omega arith)
leaf-by false true c d q = absurd (omega arith)
leaf-by false false true d q = absurd (omega arith)
leaf-by false false false true q = absurd (omega arith)
leaf-by false false false false q = (refl, refl, refl, refl)

-- the tests of a begin's arguments
pub allowed-by : (b : Begin) (work out : List ℕ) → not (within_limits b.parameters && runs_within b.runs) ≡ false
    → not (all_true (begin_lengths b.parameters b.runs b.x_a b.salt b.root b.key work out)) ≡ false
    → not (leb (weight_of (secret_of b)) b.parameters.w) ≡ false → Allowed b work out
allowed-by b work out within sized light = record {
  within = test-within b.parameters (and_left (within_limits b.parameters) (runs_within b.runs) (not-false _ within));
  counted = runs-within b.runs (and_right (within_limits b.parameters) (runs_within b.runs) (not-false _ within));
  sized = not-false _ sized;
  light = leb-true _ _ (not-false _ light);
}

module _ (hash : List ℕ → ℕ → List ℕ) (s : Prover) (work out : List ℕ) where
  pub begin-allowed : (b : Begin) → begin_checks hash s b.parameters b.runs b.x_a b.salt b.root b.key work out ≡ Ok tt → Allowed b work out
  begin-allowed b e =
      let t = begin-by _ _ _ _ false (sym (begin-ordered hash s work out b) ∙ ap answer_number e) in
      allowed-by b work out t.0 t.1 t.2

  module _ (key : Key) where
    pub points-passed : (m2 : List ℕ) → points_checks hash s m2 key work out ≡ Ok tt
        → (points_due s ≡ true) × (all_true (points_lengths s.parameters s.runs m2 key work out) ≡ true)
        × (distinct_points s.parameters s.runs m2 ≡ true)
    points-passed m2 e =
        let t = points-by _ _ _ _ (sym (points-ordered hash s work out key m2) ∙ ap answer_number e) in
        (not-false _ t.1, not-false _ t.2, not-false _ t.3)

    pub leaf-passed : (is : List ℕ) → leaf_checks hash s is key work out ≡ Ok tt → leaf_due s ≡ true
    leaf-passed is e = not-false _ (leaf-by _ _ _ _ (sym (leaf-ordered hash s work out key is) ∙ ap answer_number e)).1
