-- A product of factors X + f in a slice: it stands from a place on to the end, and each factor moves it one place down.
--
--   root-added                 what one factor leaves in the slice
--   roots-start                the product of no factors: a 1 in the last place
--   roots-turn                 one factor f more, at place at
--   all-turn, all_end          the factors X + f, X + f + 1 and so on, down to place 0
use Rattle.std.specs.Prelude.{◌≡◌, List, [], ◌∷◌, ◌++◌, ℕ, zero, suc, ◌+◌, ◌-◌, ◌≤◌, ◌<◌, length, take, drop, set}
use Rattle.std.proofs.Common.{sym, ap, ap₂, ◌∙◌, not-suc-le-zero, add-one, arith, length-set, drop_of_length-le, drop_at, take_at, length-take-le}
use Rattle.std.proofs.lemmas.List.{set_split}
use Rattle.lists.specs.Part.Laws.{tail-part, tail-back}
use Rattle.algebra.specs.Polynomial.{expand, product}
use Rattle.bytefield.specs.Product.{byte_ops}
use Rattle.polynomial.specs.Interpolant.{ascending}

pub root-added : (p ys : List ℕ) (at f : ℕ) → at < length p → ys ≡ expand byte_ops f (take (length (set p at 0) - at) (drop at (set p at 0)))
    → take at (set p at 0) ++ (ys ++ drop (length (set p at 0) - at) (drop at (set p at 0))) ≡ take at p ++ expand byte_ops f (0 ∷ drop (at + 1) p)
root-added p ys at f h e =
    let l : length (take at p) ≡ at = length-take-le at p (omega arith) in
    let s : set p at 0 ≡ take at p ++ 0 ∷ drop (at + 1) p = set_split p at 0 h ∙ ap (λ (i : ℕ). take at p ++ 0 ∷ drop i p) (sym (add-one at)) in
    tail-back (set p at 0) ys at (omega (arith, length-set p at 0))
    ∙ ap₂ (λ (a b : List ℕ). a ++ b) (ap (take at) s ∙ take_at (take at p) (0 ∷ drop (at + 1) p) at l)
    (e ∙ ap (expand byte_ops f) (tail-part (set p at 0) at ∙ ap (drop at) s ∙ drop_at (take at p) (0 ∷ drop (at + 1) p) at l))

-- ---- products of roots: p holds, from place at on, the product so far
pub roots-start : (p : List ℕ) (at : ℕ) → suc at ≡ length p → drop at (set p at 1) ≡ 1 ∷ []
roots-start p at h =
    let l : length (take at p) ≡ at = length-take-le at p (omega arith) in
    ap (drop at) (set_split p at 1 (omega arith) ∙ ap (λ (q : List ℕ). take at p ++ 1 ∷ q) (drop_of_length-le p {i = suc at} (omega arith)))
    ∙ drop_at (take at p) (1 ∷ []) at l

-- a root f more, at place at
pub roots-turn : (p q fs total : List ℕ) (at f : ℕ) → at < length p → q ≡ take at p ++ expand byte_ops f (0 ∷ drop (at + 1) p)
    → product byte_ops (drop (at + 1) p) (f ∷ fs) ≡ total → product byte_ops (drop at q) fs ≡ total
unfolding product
roots-turn p q fs total at f h eq e =
    let l : length (take at p) ≡ at = length-take-le at p (omega arith) in
    ap (λ (r : List ℕ). product byte_ops r fs) (ap (drop at) eq ∙ drop_at (take at p) _ at l) ∙ e

pub all-turn : (p q total : List ℕ) (at f g : ℕ) → 0 < at → at ≤ length p → g ≡ f + 1 → q ≡ take (at - 1) p ++ expand byte_ops g (0 ∷ drop (at - 1 + 1) p)
    → product byte_ops (drop at p) (ascending (f + 1) at) ≡ total → product byte_ops (drop (at - 1) q) (ascending (g + 1) (at - 1)) ≡ total
unfolding ascending
all-turn p q total at f g z h eg eq e =
    let n : at ≡ suc (at - 1) = omega arith in
    let m : at ≡ at - 1 + 1 = omega arith in
    let a : suc (f + 1) ≡ g + 1 = omega arith in
    roots-turn p q (ascending (g + 1) (at - 1)) total (at - 1) g (omega arith) eq
    (ap₂ (λ (i : ℕ) (fs : List ℕ). product byte_ops (drop i p) fs) (sym m)
    (ap₂ (λ (i j : ℕ). i ∷ ascending j (at - 1)) eg (sym a) ∙ sym (ap (ascending (f + 1)) n)) ∙ e)

pub all_end : (p total : List ℕ) (at f : ℕ) → at ≤ 0 → product byte_ops (drop at p) (ascending (f + 1) at) ≡ total → p ≡ total
unfolding product ascending
all_end p total zero f h e = e
all_end p total (suc at) f h e = absurd (not-suc-le-zero h)
