-- Sums of lists of coefficients, over any ring of characteristic 2.
--
--   plus_comm, plus-move              sums regrouped
--   get_d-plus, take-plus              a coefficient of a sum, and its lowest ones
--   scale-append                      a multiple of joined lists
--   plus-twice                        what is added twice is gone
--   plus_none, plus-zeros             zero times a list, and zeros, change nothing
--   length-plus-ge                    a sum is at least as long as each of its lists
use Rattle.std.specs.Prelude.{◌≡◌, length, take, get_or, replicate}
use Rattle.std.proofs.Math.Path.{refl, sym, ap, ap₂}
use mathlib.Core.List.{List, [], ◌∷◌, ◌++◌}
use Prim.Native.Nat.{ℕ, zero, suc, ◌≤◌}
use Rattle.std.proofs.Common.{le_of_suc-le-suc, not-suc-le-zero}
use native.Mathlib.Omega.{arith}
use Rattle.algebra.specs.Operations.{Operations}
use Rattle.algebra.specs.Ring.{Ring2, ops}
use Rattle.algebra.specs.Ring.Laws.{ring, zero-add}
use Rattle.algebra.specs.Polynomial.{plus, scale}
use Rattle.algebra.specs.Polynomial.Products.{plus_nil}

module _ {K : Type 0} (R : Ring2 K) where
  infixl 60 ◌+◌
  infixl 70 ◌*◌
  open R use {zero as 𝟘, one as 𝟙, add as ◌+◌, mul as ◌*◌}

  abbrev O : Operations K
  O = ops R

  pub plus_comm : (p q : List K) → plus O p q ≡ plus O q p
  unfolding plus
  plus_comm [] q = sym (plus_nil R q)
  plus_comm (a ∷ p) [] = refl
  plus_comm (a ∷ p) (b ∷ q) = ap₂ ◌∷◌ (R.add_comm a b) (plus_comm p q)

  pub plus-move : (p q r : List K) → plus O (plus O p q) r ≡ plus O q (plus O p r)
  unfolding plus
  plus-move [] q r = refl
  plus-move (a ∷ p) [] r = refl
  plus-move (a ∷ p) (b ∷ q) [] = ap₂ ◌∷◌ (R.add_comm a b) (plus_comm p q)
  plus-move (a ∷ p) (b ∷ q) (c ∷ r) = ap₂ ◌∷◌ (move a b c) (plus-move p q r)
    where
      move : (a b c : K) → a + b + c ≡ b + (a + c)
      move a b c = simp (ring, R)

  pub get_d-plus : (p q : List K) (i : ℕ) → get_or (plus O p q) i 𝟘 ≡ get_or p i 𝟘 + get_or q i 𝟘
  unfolding plus
  get_d-plus [] q i = sym (zero-add R (get_or q i 𝟘))
  get_d-plus (a ∷ p) [] i = sym (R.add-zero (get_or (a ∷ p) i 𝟘))
  get_d-plus (a ∷ p) (b ∷ q) zero = refl
  get_d-plus (a ∷ p) (b ∷ q) (suc i) = get_d-plus p q i

  pub take-plus : (n : ℕ) (p q : List K) → take n (plus O p q) ≡ plus O (take n p) (take n q)
  unfolding plus
  take-plus zero p q = refl
  take-plus (suc n) [] q = refl
  take-plus (suc n) (a ∷ p) [] = refl
  take-plus (suc n) (a ∷ p) (b ∷ q) = ap (◌∷◌ (a + b)) (take-plus n p q)

  pub scale-append : (c : K) (p q : List K) → scale O c (p ++ q) ≡ scale O c p ++ scale O c q
  unfolding scale
  scale-append c [] q = refl
  scale-append c (a ∷ p) q = ap (◌∷◌ (c * a)) (scale-append c p q)

  pub plus-twice : (p q : List K) → length p ≤ length q → plus O (plus O p q) p ≡ q
  unfolding plus
  plus-twice [] q h = plus_nil R q
  plus-twice (a ∷ p) [] h = absurd (not-suc-le-zero h)
  plus-twice (a ∷ p) (b ∷ q) h = ap₂ ◌∷◌ (twice a b) (plus-twice p q (le_of_suc-le-suc h))
    where
      twice : (a b : K) → a + b + a ≡ b
      twice a b = simp (ring, R)

  pub plus_none : (p q : List K) → length q ≤ length p → plus O p (scale O 𝟘 q) ≡ p
  unfolding plus scale
  plus_none p [] h = plus_nil R p
  plus_none [] (a ∷ q) h = absurd (not-suc-le-zero h)
  plus_none (c ∷ p) (a ∷ q) h = ap₂ ◌∷◌ (none c a) (plus_none p q (le_of_suc-le-suc h))
    where
      none : (c a : K) → c + 𝟘 * a ≡ c
      none c a = simp (ring, R)

  pub plus-zeros : (p : List K) (k : ℕ) → k ≤ length p → plus O p (replicate k 𝟘) ≡ p
  unfolding plus
  plus-zeros p zero h = plus_nil R p
  plus-zeros [] (suc k) h = absurd (not-suc-le-zero h)
  plus-zeros (a ∷ p) (suc k) h = ap₂ ◌∷◌ (R.add-zero a) (plus-zeros p k (le_of_suc-le-suc h))

  pub length-plus-ge : (p q : List K) → length p ≤ length (plus O p q)
  unfolding plus
  length-plus-ge [] q = omega arith
  length-plus-ge (a ∷ p) [] = omega arith
  length-plus-ge (a ∷ p) (b ∷ q) = omega (arith, length-plus-ge p q)
