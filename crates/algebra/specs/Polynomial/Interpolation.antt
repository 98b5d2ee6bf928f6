-- Interpolation, over a field of characteristic 2.
--
--   interpolate-values      at pairwise different points the polynomial has the given values
--   interpolate-unique      no other polynomial of as many coefficients has them
use Rattle.std.specs.Prelude.{◌≡◌}
use Rattle.std.proofs.Math.Path.{refl, sym, ap, ap₂}
use Rattle.std.proofs.Common.{◌∙◌, le_of_eq, arith}
use mathlib.Core.List.{List, [], ◌∷◌}
use Rattle.std.proofs.Math.ListN.{length}
use Rattle.algebra.specs.Operations.{Operations}
use Rattle.algebra.specs.Ring.{ops}
use Rattle.algebra.specs.Ring.Laws.{ring, combine, equal-of-sum}
use Rattle.algebra.specs.Field.{Field2}
use Rattle.algebra.specs.Each.{Each, Distinct}
use Rattle.algebra.specs.Polynomial.{eval, first, behind, expand, slopes, interpolate, values}
use Rattle.algebra.specs.Polynomial.Lengths.{length-slopes, length-interpolate}
use Rattle.algebra.specs.Polynomial.Evaluation.{eval-expand}
use Rattle.algebra.specs.Polynomial.Roots.{unique}

module _ {K : Type 0} (F : Field2 K) where
  infixl 60 ◌+◌
  infixl 70 ◌*◌
  open F.base use {zero as 𝟘, one as 𝟙, add as ◌+◌, mul as ◌*◌}

  abbrev O : Operations K
  O = ops F.base

  value-here : (y f v : K) → y + (f + f) * v ≡ y
  value-here y f v = simp (ring, F.base)

  value_there : (y z g f w : K) → (g + f) * w ≡ 𝟙 → y + (g + f) * ((z + y) * w) ≡ z
  value_there y z g f w h = combine F.base (z + y) _ _ h (simp (ring, F.base))

  slopes-up : (f y : K) (gs zs q : List K) → length gs ≡ length zs → Each (λ g. g ≡ f → ⊥) gs → values O q gs ≡ slopes O F.inv f y gs zs
      → values O (expand O f (y ∷ q)) gs ≡ zs
  unfolding slopes
  slopes-up f y [] [] q l n e = refl
  slopes-up f y [] (z ∷ zs) q l n e = absurd (omega (arith, l))
  slopes-up f y (g ∷ gs) [] q l n e = absurd (omega (arith, l))
  slopes-up f y (g ∷ gs) (z ∷ zs) q l n e =
      ap₂ ◌∷◌
      (eval-expand F.base f y q g ∙ ap (λ (v : K). y + (g + f) * v) (ap (first O) e)
      ∙ value_there y z g f _ (F.mul-inv (g + f) (λ s. n.0 (equal-of-sum F.base g f s))))
      (slopes-up f y gs zs q (omega (arith, l)) n.1 (ap (behind O) e))

  pub interpolate-values : (fs ys : List K) → length fs ≡ length ys → Distinct fs → values O (interpolate O F.inv fs ys) fs ≡ ys
  unfolding interpolate
  interpolate-values [] [] l d = refl
  interpolate-values [] (y ∷ ys) l d = absurd (omega (arith, l))
  interpolate-values (f ∷ fs) [] l d = absurd (omega (arith, l))
  interpolate-values (f ∷ fs) (y ∷ ys) l d =
      let k : length fs ≡ length ys = omega (arith, l) in
      let s : length fs ≡ length (slopes O F.inv f y fs ys) = k ∙ sym (length-slopes O F.inv f y fs ys k) in
      ap₂ ◌∷◌ (eval-expand F.base f y _ f ∙ value-here y f _)
      (slopes-up f y fs ys _ k d.0 (interpolate-values fs (slopes O F.inv f y fs ys) s d.1))

  each-of-values : (p q fs : List K) → values O p fs ≡ values O q fs → Each (λ x. eval O p x ≡ eval O q x) fs
  each-of-values p q [] e = tt
  each-of-values p q (f ∷ fs) e = (ap (first O) e, each-of-values p q fs (ap (behind O) e))

  -- the only polynomial of as many coefficients
  pub interpolate-unique : (fs ys p : List K) → length fs ≡ length ys → Distinct fs → length p ≡ length fs → values O p fs ≡ ys → p ≡ interpolate O F.inv fs ys
  interpolate-unique fs ys p l d k e =
      unique F fs p (interpolate O F.inv fs ys) (k ∙ sym (length-interpolate O F.inv fs ys l)) (le_of_eq k) d
      (each-of-values p (interpolate O F.inv fs ys) fs (e ∙ sym (interpolate-values fs ys l d)))
