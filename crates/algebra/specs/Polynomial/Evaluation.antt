-- The value of a polynomial, over any ring of characteristic 2.
--
--   eval-plus, -scale, -times      evaluation is additive and multiplicative
--   eval-snoc                      a coefficient more at the top: a power of x more
--   eval-zeros                     the zero polynomial
--   eval-expand                    the value of y + (X + f) p
--   first-divide                   the remainder of p by X + f is the value of p at f
--   expand-divide                  multiplying by X + f undoes the division
--   plus-zeros                     two lists of one length whose sum is zero are equal
use Rattle.std.specs.Prelude.{◌≡◌, length}
use Rattle.std.proofs.Math.Path.{refl, ap, ap₂}
use Rattle.std.proofs.Common.{◌∙◌, arith}
use mathlib.Core.List.{List, [], ◌∷◌, ◌++◌}
use Rattle.algebra.specs.Operations.{Operations}
use Rattle.algebra.specs.Ring.{Ring2, ops}
use Rattle.algebra.specs.Ring.Laws.{ring, combine, equal-of-sum}
use Rattle.algebra.specs.Polynomial.{eval, plus, scale, times, pow, first, expand, divide, Zeros}

module _ {K : Type 0} (R : Ring2 K) where
  infixl 60 ◌+◌
  infixl 70 ◌*◌
  open R use {zero as 𝟘, one as 𝟙, add as ◌+◌, mul as ◌*◌}

  abbrev O : Operations K
  O = ops R

  pub eval-plus : (p q : List K) (x : K) → eval O (plus O p q) x ≡ eval O p x + eval O q x
  unfolding eval plus
  eval-plus [] q x = simp (ring, R)
  eval-plus (a ∷ p) [] x = simp (ring, R)
  eval-plus (a ∷ p) (b ∷ q) x = simp (ring, R, eval-plus p q x)

  scale-step : (c a x v w : K) → w ≡ c * v → c * a + x * w ≡ c * (a + x * v)
  scale-step c a x v w h = combine R x _ _ h (simp (ring, R))

  pub eval-scale : (c : K) (p : List K) (x : K) → eval O (scale O c p) x ≡ c * eval O p x
  unfolding eval scale
  eval-scale c [] x = simp (ring, R)
  eval-scale c (a ∷ p) x = scale-step c a x _ _ (eval-scale c p x)

  times-step : (a x p q m : K) → m ≡ p * q → a * q + (𝟘 + x * m) ≡ (a + x * p) * q
  times-step a x p q m h = combine R x _ _ h (simp (ring, R))

  pub eval-times : (p q : List K) (x : K) → eval O (times O p q) x ≡ eval O p x * eval O q x
  unfolding eval times
  eval-times [] q x = simp (ring, R)
  eval-times (a ∷ p) q x =
      eval-plus (scale O a q) (𝟘 ∷ times O p q) x
      ∙ ap (λ (y : K). y + (𝟘 + x * eval O (times O p q) x)) (eval-scale a q x)
      ∙ times-step a x (eval O p x) (eval O q x) (eval O (times O p q) x) (eval-times p q x)

  snoc-end : (c x : K) → c + x * 𝟘 ≡ 𝟘 + 𝟙 * c
  snoc-end c x = simp (ring, R)

  snoc-step : (a x e w c : K) → a + x * (e + w * c) ≡ a + x * e + w * x * c
  snoc-step a x e w c = simp (ring, R)

  pub eval-snoc : (p : List K) (c x : K) → eval O (p ++ (c ∷ [])) x ≡ eval O p x + pow O x (length p) * c
  unfolding eval pow
  eval-snoc [] c x = snoc-end c x
  eval-snoc (a ∷ p) c x =
      ap (λ (v : K). a + x * v) (eval-snoc p c x) ∙ snoc-step a x (eval O p x) (pow O x (length p)) c

  zeros-step : (a x v : K) → a ≡ 𝟘 → v ≡ 𝟘 → a + x * v ≡ 𝟘
  zeros-step a x v h k = combine R 𝟙 _ _ h (combine R x _ _ k (simp (ring, R)))

  pub eval-zeros : (p : List K) → Zeros O p → (x : K) → eval O p x ≡ 𝟘
  unfolding eval
  eval-zeros [] z x = refl
  eval-zeros (a ∷ p) z x = zeros-step a x (eval O p x) z.0 (eval-zeros p z.1 x)

  -- ---- the steps by X + f
  expand-step : (y f c x e v : K) → e ≡ c + (x + f) * v → y + f * c + x * e ≡ y + (x + f) * (c + x * v)
  expand-step y f c x e v h = combine R x _ _ h (simp (ring, R))

  expand-end : (y f x : K) → y + x * 𝟘 ≡ y + (x + f) * 𝟘
  expand-end y f x = simp (ring, R)

  pub eval-expand : (f y : K) (p : List K) (x : K) → eval O (expand O f (y ∷ p)) x ≡ y + (x + f) * eval O p x
  unfolding expand eval
  eval-expand f y [] x = expand-end y f x
  eval-expand f y (c ∷ p) x = expand-step y f c x _ _ (eval-expand f c p x)

  pub first-divide : (f : K) (p : List K) → first O (divide O f p) ≡ eval O p f
  unfolding divide eval
  first-divide f [] = refl
  first-divide f (b ∷ p) = ap (λ (v : K). b + f * v) (first-divide f p)

  back : (b f v : K) → b + f * v + f * v ≡ b
  back b f v = simp (ring, R)

  back_end : (b f : K) → b + f * 𝟘 ≡ b
  back_end b f = simp (ring, R)

  pub expand-divide : (f : K) (l : List K) → expand O f (divide O f l) ≡ l
  unfolding expand divide
  expand-divide f [] = refl
  expand-divide f (b ∷ []) = ap (λ (v : K). v ∷ []) (back_end b f)
  expand-divide f (b ∷ c ∷ p) = ap₂ ◌∷◌ (back b f _) (expand-divide f (c ∷ p))

  -- ---- sums
  pub plus-zeros : (p q : List K) → length p ≡ length q → Zeros O (plus O p q) → p ≡ q
  unfolding plus
  plus-zeros [] [] l z = refl
  plus-zeros [] (b ∷ q) l z = absurd (omega (arith, l))
  plus-zeros (a ∷ p) [] l z = absurd (omega (arith, l))
  plus-zeros (a ∷ p) (b ∷ q) l z = ap₂ ◌∷◌ (equal-of-sum R a b z.0) (plus-zeros p q (omega (arith, l)) z.1)
