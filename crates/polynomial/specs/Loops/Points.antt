-- The loop that writes the interpolation points, and their front.
--
--   points-turn     f, the point at place i, is written
--   points-front    the first n of all points are those of n entries; length_front: there are n of them
--   at_front        the polynomial through x at the first of all points is S
use Rattle.std.specs.Prelude.{◌≡◌, refl, List, ◌∷◌, ℕ, zero, suc, ◌+◌, ◌≤◌, ◌<◌, length, take, set}
use Rattle.std.proofs.Common.{sym, ap, ◌∙◌, le_of_suc-le-suc, not-suc-le-zero, arith}
use Rattle.lists.specs.Blend.{blend}
use Rattle.lists.specs.Blend.Laws.{blend-up}
use Rattle.algebra.specs.Polynomial.{interpolate}
use Rattle.bytefield.specs.Product.{byte_ops}
use Rattle.bytefield.specs.Inverse.{inverse}
use Rattle.polynomial.specs.Interpolant.{ascending, interpolation_points, interpolant_of}
use Rattle.polynomial.specs.Interpolant.Laws.{length-ascending, ascending-at}

pub points-turn : (m i f : ℕ) (l p : List ℕ) → length l ≡ m → i < m → f ≡ i + 1 → p ≡ blend i (interpolation_points m) l
    → set p i f ≡ blend (i + 1) (interpolation_points m) l
points-turn m i f l p e h ef ep =
    let q : f ≡ 1 + i = omega arith in
    blend-up i f (interpolation_points m) l p (length-ascending 1 m ∙ sym e) (omega arith) ep (q ∙ sym (ascending-at 1 m i h))

take-ascending : (a m n : ℕ) → n ≤ m → take n (ascending a m) ≡ ascending a n
unfolding ascending
take-ascending a m zero h = refl
take-ascending a zero (suc n) h = absurd (not-suc-le-zero h)
take-ascending a (suc m) (suc n) h = ap (◌∷◌ a) (take-ascending (suc a) m n (le_of_suc-le-suc h))

pub points-front : (m n : ℕ) (l : List ℕ) → n ≤ m → l ≡ interpolation_points m → take n l ≡ interpolation_points n
points-front m n l h e = ap (take n) e ∙ take-ascending 1 m n h

pub length_front : (m n : ℕ) (l : List ℕ) → n ≤ m → l ≡ interpolation_points m → length (take n l) ≡ n
length_front m n l h e = ap length (points-front m n l h e) ∙ length-ascending 1 n

pub at_front : (m : ℕ) (x z l : List ℕ) → length x ≤ m → l ≡ interpolation_points m → z ≡ interpolate byte_ops inverse (take (length x) l) x → z ≡ interpolant_of x
unfolding interpolant_of
at_front m x z l h e ez = ez ∙ ap (λ (fs : List ℕ). interpolate byte_ops inverse fs x) (points-front m (length x) l h e)
