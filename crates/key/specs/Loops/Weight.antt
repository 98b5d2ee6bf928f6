-- The loop that counts nonzero entries: n plus the weight of what stands from i on is the weight.
--
--   weight-zero, weight-other    a turn, by whether entry i is zero
--   weight-end                   nothing is left
use Rattle.std.specs.Prelude.{◌≡◌, refl, List, ◌∷◌, ℕ, zero, suc, ◌+◌, ◌≤◌, ◌<◌, length, drop, get_or}
use Rattle.std.proofs.Common.{ap, ◌∙◌, add-one, arith, drop_of_length-le, drop-cons}
use Rattle.relation.specs.Key.{weight_of}

weight-cons-zero : (a : ℕ) (x : List ℕ) → a ≡ 0 → weight_of (a ∷ x) ≡ weight_of x
unfolding weight_of
weight-cons-zero zero x e = refl
weight-cons-zero (suc a) x e = absurd (omega (arith, e))

weight-cons-other : (a : ℕ) (x : List ℕ) → (a ≡ 0 → ⊥) → weight_of (a ∷ x) ≡ suc (weight_of x)
unfolding weight_of
weight-cons-other zero x e = absurd (e refl)
weight-cons-other (suc a) x e = refl

module _ (x : List ℕ) (i : ℕ) (h : i < length x) where
  from : drop i x ≡ get_or x i 0 ∷ drop (i + 1) x
  from = rw (add-one i) (drop-cons x i 0 h)

  pub weight-zero : get_or x i 0 ≡ 0 → weight_of (drop i x) ≡ weight_of (drop (i + 1) x)
  weight-zero e = ap weight_of from ∙ weight-cons-zero (get_or x i 0) (drop (i + 1) x) e

  pub weight-other : (get_or x i 0 ≡ 0 → ⊥) → weight_of (drop i x) ≡ suc (weight_of (drop (i + 1) x))
  weight-other e = ap weight_of from ∙ weight-cons-other (get_or x i 0) (drop (i + 1) x) e

pub weight-end : (x : List ℕ) (i : ℕ) → length x ≤ i → weight_of (drop i x) ≡ 0
unfolding weight_of
weight-end x i h = rw (drop_of_length-le x h)
