-- The loop that makes Q: from place at on stands a product that the factors of the positions still to come complete to Q.
--
--   root_if b p at f, at_if b at       one more factor X + f, one place lower, where b
--   root-hit, root-miss              the function that does it
--   Located x k i at p total         at turn i, with k positions still to fill in, p is on its way to total
--   located-start, -turn, -end       before, at and after the turns
--   located-positive                 there is room for a factor
use Rattle.std.specs.Prelude.{◌≡◌, refl, Bool, true, false, List, [], ◌∷◌, ◌++◌, ℕ, suc, ◌+◌, ◌-◌, ◌≤◌, ◌<◌, length, take, drop, get_or, set}
use Rattle.std.proofs.Common.{sym, ap, ap₂, ◌∙◌, arith}
use Rattle.algebra.specs.Marks.{pick, marked}
use Rattle.algebra.specs.Polynomial.{expand, product}
use Rattle.bytefield.specs.Product.{byte_ops}
use Rattle.polynomial.specs.Interpolant.{ascending}
use Rattle.polynomial.specs.Loops.Roots.{roots-start, roots-turn}
use Rattle.relation.specs.Key.{weight_of, filled, positions, locator_of}
use Rattle.relation.proofs.Laws.Key.Positions.{marked-positions}
use Rattle.key.specs.Loops.Positions.{chosen, spared, marks_from, points_from, marks-start, marks-step, points-step, marks-end}

-- ---- one factor

unfoldable pub root_if : Bool → List ℕ → ℕ → ℕ → List ℕ
root_if true p at f = take (at - 1) p ++ expand byte_ops f (0 ∷ drop (at - 1 + 1) p)
root_if false p at f = p

unfoldable pub at_if : Bool → ℕ → ℕ
at_if true at = at - 1
at_if false at = at

pub root-hit : (b : Bool) (p q : List ℕ) (at f r : ℕ) → b ≡ true → q ≡ take (at - 1) p ++ expand byte_ops f (0 ∷ drop (at - 1 + 1) p) → r ≡ at - 1
    → (q ≡ root_if b p at f) × (r ≡ at_if b at)
unfolding root_if at_if
root-hit b p q at f r e eq er = rw e (eq, er)

pub root-miss : (b : Bool) (p : List ℕ) (at f : ℕ) → b ≡ false → (p ≡ root_if b p at f) × (at ≡ at_if b at)
unfolding root_if at_if
root-miss b p at f e = rw e (refl, refl)

pub at_if-le : (b : Bool) (at : ℕ) → at_if b at ≤ at
unfolding at_if
at_if-le true at = omega arith
at_if-le false at = omega arith

-- ---- the turns

abbrev pub Located : List ℕ → ℕ → ℕ → ℕ → List ℕ → List ℕ → Type 0
Located x left i at p total = (at ≡ marked (marks_from left i x)) × (product byte_ops (drop at p) (pick (marks_from left i x) (points_from i x)) ≡ total)

pub located-start : (x p : List ℕ) (w v : ℕ) → v ≡ w - weight_of x → weight_of x ≤ w → w ≤ length x → length p ≡ w + 1 → Located x v 0 w (set p w 1) (locator_of w x)
unfolding locator_of
located-start x p w v ev h k l =
    let n : length x - 0 ≡ length x = omega arith in
    let m : filled v x ≡ positions w x = marks-start w v x ev in (
      sym (ap marked m ∙ marked-positions w x h k),
      ap₂ (λ (q : List ℕ) (c : List Bool). product byte_ops q (pick c (ascending 1 (length x - 0)))) (roots-start p w (omega arith)) m
          ∙ ap (λ (j : ℕ). product byte_ops (1 ∷ []) (pick (positions w x) (ascending 1 j))) n,
    )

located-by : (b : Bool) (bs : List Bool) (gs p total : List ℕ) (at f : ℕ) → at < length p → at ≡ marked (b ∷ bs) → product byte_ops (drop at p) (pick (b ∷ bs) (f ∷ gs)) ≡ total
    → (at_if b at ≡ marked bs) × (product byte_ops (drop (at_if b at) (root_if b p at f)) (pick bs gs) ≡ total)
unfolding marked pick at_if root_if
located-by true bs gs p total at f h c e =
    let n : at - 1 + 1 ≡ at = omega arith in
    (omega arith, roots-turn p (root_if true p at f) (pick bs gs) total (at - 1) f (omega arith) refl (ap (λ (j : ℕ). product byte_ops (drop j p) (f ∷ pick bs gs)) n ∙ e))
located-by false bs gs p total at f h c e = (c, e)

pub located-turn : (x p q total : List ℕ) (left i at f left' at' : ℕ) (b : Bool) → i < length x → at < length p → f ≡ i + 1 → b ≡ chosen (get_or x i 0) left
    → q ≡ root_if b p at f → at' ≡ at_if b at → left' ≡ spared (get_or x i 0) left → Located x left i at p total → Located x left' (i + 1) at' q total
located-turn x p q total left i at f left' at' b h k ef eb eq ea el e =
    let m : marks_from left i x ≡ b ∷ marks_from left' (i + 1) x = marks-step left i x h ∙ ap₂ (λ (c : Bool) (j : ℕ). c ∷ marks_from j (i + 1) x) (sym eb) (sym el) in
    let g : points_from i x ≡ f ∷ points_from (i + 1) x = points-step i x h ∙ ap (λ (j : ℕ). j ∷ points_from (i + 1) x) (sym ef) in
    let r = located-by b (marks_from left' (i + 1) x) (points_from (i + 1) x) p total at f k (e.0 ∙ ap marked m)
    (ap₂ (λ (c : List Bool) (gs : List ℕ). product byte_ops (drop at p) (pick c gs)) (sym m) (sym g) ∙ e.1) in
    (ea ∙ r.0, ap₂ (λ (j : ℕ) (l : List ℕ). product byte_ops (drop j l) (pick (marks_from left' (i + 1) x) (points_from (i + 1) x))) ea eq ∙ r.1)

pub located-positive : (x p total : List ℕ) (left i at : ℕ) (b : Bool) → i < length x → b ≡ chosen (get_or x i 0) left → Located x left i at p total → b ≡ true → 0 < at
unfolding marked
located-positive x p total left i at b h eb e t =
    let m : at ≡ suc (marked (marks_from (spared (get_or x i 0) left) (i + 1) x))
    = e.0 ∙ ap marked (marks-step left i x h ∙ ap (λ (c : Bool). c ∷ marks_from (spared (get_or x i 0) left) (i + 1) x) (sym eb ∙ t)) in
    omega arith

pub located_end : (x p total : List ℕ) (left i at : ℕ) → length x ≤ i → Located x left i at p total → p ≡ total
unfolding marked pick product
located_end x p total left i at h e =
    let m = marks-end left i x h in
    let z : at ≡ 0 = e.0 ∙ ap marked m in
    sym (ap₂ (λ (j : ℕ) (c : List Bool). product byte_ops (drop j p) (pick c (points_from i x))) z m) ∙ e.1
