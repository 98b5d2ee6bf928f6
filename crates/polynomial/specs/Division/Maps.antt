-- A homomorphism carries division over.
--
--   map-take, map-remainder, map-over
use Rattle.std.specs.Prelude.{◌≡◌, ℕ, zero, suc, ◌-◌, take, get_or}
use Rattle.std.proofs.Math.Path.{refl, ap, ap₂}
use Rattle.std.proofs.Common.{sym, ◌∙◌}
use mathlib.Core.List.{List, [], ◌∷◌, map}
use Rattle.std.proofs.Math.ListN.{replicate, get_or-map}
use Rattle.std.proofs.lemmas.List.{length-map}
use Rattle.algebra.specs.Operations.{Operations, Homomorphism}
use Rattle.algebra.specs.Polynomial.{plus, scale}
use Rattle.algebra.specs.Polynomial.Maps.{map-plus, map-scale}
use Rattle.polynomial.specs.Division.{degree, lead, remainder, over}

module _ {K L : Type 0} (O : Operations K) (P : Operations L) (h : K → L) (k : Homomorphism O P h) where
  pub map-take : (n : ℕ) (p : List K) → map h (take n p) ≡ take n (map h p)
  map-take zero p = refl
  map-take (suc n) [] = refl
  map-take (suc n) (a ∷ p) = ap (◌∷◌ (h a)) (map-take n p)

  map-replicate : (n : ℕ) → map h (replicate n O.zero) ≡ replicate n P.zero
  map-replicate zero = refl
  map-replicate (suc n) = ap₂ ◌∷◌ k.zero (map-replicate n)

  map-lead : (t b : List K) → h (lead O t b) ≡ lead P (map h t) (map h b)
  map-lead t b =
      sym (get_or-map h t (degree b) O.zero)
      ∙ ap₂ (λ (n : ℕ) (z : L). get_or (map h t) (n - 1) z) (sym (length-map b h)) k.zero

  pub map-remainder : (p b : List K) → map h (remainder O p b) ≡ remainder P (map h p) (map h b)
  unfolding remainder
  map-remainder [] b = map-replicate (degree b) ∙ ap (λ (n : ℕ). replicate (n - 1) P.zero) (sym (length-map b h))
  map-remainder (a ∷ p) b =
      map-plus O P h k (take (degree b) (a ∷ remainder O p b)) (scale O (lead O (a ∷ remainder O p b) b) (take (degree b) b))
      ∙ ap₂ (plus P) (map-take (degree b) (a ∷ remainder O p b))
      (map-scale O P h k (lead O (a ∷ remainder O p b) b) (take (degree b) b)
      ∙ ap₂ (scale P) (map-lead (a ∷ remainder O p b) b) (map-take (degree b) b))
      ∙ ap₂ (λ (n : ℕ) (r : List L). plus P (take (n - 1) (h a ∷ r)) (scale P (lead P (h a ∷ r) (map h b)) (take (n - 1) (map h b))))
      (sym (length-map b h)) (map-remainder p b)

  pub map-over : (p b : List K) → map h (over O p b) ≡ over P (map h p) (map h b)
  unfolding over
  map-over [] b = refl
  map-over (a ∷ p) b =
      ap₂ ◌∷◌ (map-lead (a ∷ remainder O p b) b ∙ ap (λ (r : List L). lead P (h a ∷ r) (map h b)) (map-remainder p b)) (map-over p b)
