-- How many coefficients each polynomial has. Holds for any operations.
--
--   length-plus, -plus-le, -scale, -times      of sums, multiples and products
--   length-expand, -divide                     one step by X + f keeps the length of its list
--   length-product, -quotient                  each root adds or takes one coefficient
--   length-slopes, -interpolate                as many coefficients as points
use Rattle.std.specs.Prelude.{◌≡◌}
use Rattle.std.proofs.Math.Path.{refl, ap}
use Rattle.std.proofs.Common.{◌∙◌, le_of_suc-le-suc, not-suc-le-zero}
use mathlib.Core.List.{List, [], ◌∷◌}
use Prim.Native.Nat.{ℕ, zero, suc, ◌≤◌, ◌+◌, suc-le-suc}
use native.Mathlib.Omega.{arith}
use Rattle.std.proofs.Math.ListN.{length}
use Rattle.algebra.specs.Operations.{Operations}
use Rattle.algebra.specs.Polynomial.{plus, scale, times, behind, expand, divide, product, quotient, slopes, interpolate}

module _ {K : Type 0} (O : Operations K) where
  pub length-scale : (c : K) (p : List K) → length (scale O c p) ≡ length p
  unfolding scale
  length-scale c [] = refl
  length-scale c (a ∷ p) = ap suc (length-scale c p)

  pub length-plus : (p q : List K) → length p ≤ length q → length (plus O p q) ≡ length q
  unfolding plus
  length-plus [] q h = refl
  length-plus (a ∷ p) [] h = absurd (not-suc-le-zero h)
  length-plus (a ∷ p) (b ∷ q) h = ap suc (length-plus p q (le_of_suc-le-suc h))

  pub length-plus-le : (p q : List K) (n : ℕ) → length p ≤ n → length q ≤ n → length (plus O p q) ≤ n
  unfolding plus
  length-plus-le [] q n h k = k
  length-plus-le (a ∷ p) [] n h k = h
  length-plus-le (a ∷ p) (b ∷ q) zero h k = absurd (not-suc-le-zero h)
  length-plus-le (a ∷ p) (b ∷ q) (suc n) h k = suc-le-suc (length-plus-le p q n (le_of_suc-le-suc h) (le_of_suc-le-suc k))

  pub length-times : (p q : List K) (n : ℕ) → suc n ≤ length q → suc (length (times O p q)) ≤ length p + length q
  unfolding times
  length-times [] q n h = omega arith
  length-times (a ∷ p) q n h =
      let i = length-times p q n h in
      let s = length-scale a q in
      let l = length-plus-le (scale O a q) (O.zero ∷ times O p q) (length p + length q) (omega arith) (omega arith) in
      omega arith

  pub length-expand : (f : K) (l : List K) → length (expand O f l) ≡ length l
  unfolding expand
  length-expand f [] = refl
  length-expand f (y ∷ []) = refl
  length-expand f (y ∷ c ∷ p) = ap suc (length-expand f (c ∷ p))

  pub length-divide : (f : K) (l : List K) → length (divide O f l) ≡ length l
  unfolding divide
  length-divide f [] = refl
  length-divide f (b ∷ p) = ap suc (length-divide f p)

  pub length-product : (p fs : List K) → length (product O p fs) ≡ length p + length fs
  unfolding product
  length-product p [] = omega arith
  length-product p (f ∷ fs) =
      let e = length-expand f (O.zero ∷ p) in
      let g = length-product (expand O f (O.zero ∷ p)) fs in
      omega arith

  length-behind : (l : List K) (n : ℕ) → suc n ≤ length l → suc (length (behind O l)) ≡ length l
  length-behind [] n h = absurd (not-suc-le-zero h)
  length-behind (a ∷ p) n h = refl

  pub length-quotient : (p fs : List K) → length fs ≤ length p → length (quotient O p fs) + length fs ≡ length p
  unfolding quotient
  length-quotient p [] h = omega arith
  length-quotient p (f ∷ fs) h =
      let s = length-divide f p in
      let b = length-behind (divide O f p) (length fs) (omega arith) in
      let q = length-quotient (behind O (divide O f p)) fs (omega arith) in
      omega arith

  pub length-slopes : (inv : K → K) (f y : K) (gs zs : List K) → length gs ≡ length zs → length (slopes O inv f y gs zs) ≡ length zs
  unfolding slopes
  length-slopes inv f y [] zs e = e
  length-slopes inv f y (g ∷ gs) [] e = refl
  length-slopes inv f y (g ∷ gs) (z ∷ zs) e = ap suc (length-slopes inv f y gs zs (omega (arith, e)))

  pub length-interpolate : (inv : K → K) (fs ys : List K) → length fs ≡ length ys → length (interpolate O inv fs ys) ≡ length fs
  unfolding interpolate
  length-interpolate inv [] ys e = refl
  length-interpolate inv (f ∷ fs) [] e = absurd (omega (arith, e))
  length-interpolate inv (f ∷ fs) (y ∷ ys) e =
      let s : length (slopes O inv f y fs ys) ≡ length ys = length-slopes inv f y fs ys (omega (arith, e)) in
      length-expand f _ ∙ ap suc (length-interpolate inv fs (slopes O inv f y fs ys) (omega (arith, e)))
