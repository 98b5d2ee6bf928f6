-- A polynomial that vanishes at some points of a list, divided by their factors: known from its values at the other points.
--
--   distances x gs          the product of the distances x + g of x from the points gs
--   ratios inv gs fs ys     the values ys at the points fs, each over the distances of its point from gs
--   map-distances, -ratios  a homomorphism carries them over
--   eval-product            the value of p times the factors X + g: that of p, times the distances
--   distances-nonzero       the distances of x from points other than x are not zero
--   quotient-interpolates   s divided by the factors that marks leave is the polynomial through the ratios at the points that they pick
use Rattle.std.specs.Prelude.{◌≡◌, Bool, length}
use Rattle.std.proofs.Math.Path.{refl, ap, ap₂}
use Rattle.std.proofs.Common.{sym, ◌∙◌, arith}
use mathlib.Core.List.{List, [], ◌∷◌, map}
use Rattle.std.proofs.lemmas.List.{length-map}
use Rattle.algebra.specs.Operations.{Operations, Homomorphism}
use Rattle.algebra.specs.Ring.{Ring2, ops}
use Rattle.algebra.specs.Ring.Laws.{ring, combine, equal-of-sum}
use Rattle.algebra.specs.Field.{Field2}
use Rattle.algebra.specs.Field.Laws.{no-zero-divisor}
use Rattle.algebra.specs.Each.{Each, NotIn, Disjoint, Distinct}
use Rattle.algebra.specs.Marks.{pick, leave}
use Rattle.algebra.specs.Marks.Laws.{length-pick, map-pick}
use Rattle.algebra.specs.Marks.Laws.{length-leave, distinct-pick, distinct-leave, pick-apart}
use Rattle.algebra.specs.Polynomial.{eval, product, quotient, interpolate, values}
use Rattle.algebra.specs.Polynomial.Lengths.{length-quotient}
use Rattle.algebra.specs.Polynomial.Products.{eval-product-step}
use Rattle.algebra.specs.Polynomial.Interpolation.{interpolate-unique}
use Rattle.algebra.specs.Polynomial.Quotients.{product-quotient}

module _ {K : Type 0} (O : Operations K) where
  unfoldable pub distances : K → List K → K
  distances x [] = O.one
  distances x (g ∷ gs) = O.mul (O.add x g) (distances x gs)

  unfoldable pub ratios : (K → K) → List K → List K → List K → List K
  ratios inv gs [] ys = []
  ratios inv gs (f ∷ fs) [] = []
  ratios inv gs (f ∷ fs) (y ∷ ys) = O.mul y (inv (distances f gs)) ∷ ratios inv gs fs ys

module _ {K L : Type 0} (O : Operations K) (P : Operations L) (h : K → L) (k : Homomorphism O P h) where
  pub map-distances : (x : K) (gs : List K) → h (distances O x gs) ≡ distances P (h x) (map h gs)
  unfolding distances
  map-distances x [] = k.one
  map-distances x (g ∷ gs) = k.mul (O.add x g) (distances O x gs) ∙ ap₂ P.mul (k.add x g) (map-distances x gs)

  pub map-ratios : (inv : K → K) (inv' : L → L) → ((a : K) → h (inv a) ≡ inv' (h a)) → (gs fs ys : List K)
      → map h (ratios O inv gs fs ys) ≡ ratios P inv' (map h gs) (map h fs) (map h ys)
  unfolding ratios
  map-ratios inv inv' e gs [] ys = refl
  map-ratios inv inv' e gs (f ∷ fs) [] = refl
  map-ratios inv inv' e gs (f ∷ fs) (y ∷ ys) =
      ap₂ ◌∷◌ (k.mul y (inv (distances O f gs)) ∙ ap (P.mul (h y)) (e (distances O f gs) ∙ ap inv' (map-distances f gs))) (map-ratios inv inv' e gs fs ys)

module _ {K : Type 0} (R : Ring2 K) where
  infixl 60 ◌+◌
  infixl 70 ◌*◌
  open R use {one as 𝟙, add as ◌+◌, mul as ◌*◌}

  no-factor : (v : K) → v ≡ 𝟙 * v
  no-factor v = simp (ring, R)

  one-factor : (a d v : K) → a * (d * v) ≡ a * d * v
  one-factor a d v = simp (ring, R)

  pub eval-product : (p gs : List K) (x : K) → eval (ops R) (product (ops R) p gs) x ≡ distances (ops R) x gs * eval (ops R) p x
  unfolding product distances
  eval-product p [] x = no-factor (eval (ops R) p x)
  eval-product p (g ∷ gs) x =
      eval-product-step R g p gs x ∙ ap (λ (v : K). (x + g) * v) (eval-product p gs x) ∙ one-factor (x + g) (distances (ops R) x gs) (eval (ops R) p x)

  ratio-ring : (s d i q : K) → s ≡ d * q → d * i ≡ 𝟙 → q ≡ s * i
  ratio-ring s d i q e u = combine R i _ _ e (combine R q _ _ u (simp (ring, R)))

module _ {K : Type 0} (F : Field2 K) where
  infixl 60 ◌+◌
  infixl 70 ◌*◌
  open F.base use {zero as 𝟘, one as 𝟙, add as ◌+◌, mul as ◌*◌}

  abbrev O : Operations K
  O = ops F.base

  pub distances-nonzero : (x : K) (gs : List K) → NotIn x gs → distances O x gs ≡ 𝟘 → ⊥
  unfolding distances
  distances-nonzero x [] n z = F.one≢zero z
  distances-nonzero x (g ∷ gs) n z =
      distances-nonzero x gs n.1 (no-zero-divisor F (x + g) (distances O x gs) z (λ s. n.0 (sym (equal-of-sum F.base x g s))))

  values-ratios : (q s gs fs : List K) → product O q gs ≡ s → Disjoint fs gs
      → values O q fs ≡ ratios O F.inv gs fs (values O s fs)
  unfolding ratios
  values-ratios q s gs [] w n = refl
  values-ratios q s gs (f ∷ fs) w n =
      ap₂ ◌∷◌
      (ratio-ring F.base (eval O s f) (distances O f gs) (F.inv (distances O f gs)) (eval O q f)
      (ap (λ (p : List K). eval O p f) (sym w) ∙ eval-product F.base q gs f) (F.mul-inv (distances O f gs) (distances-nonzero f gs n.0)))
      (values-ratios q s gs fs w n.1)

  pub quotient-interpolates : (bs : List Bool) (fs s : List K) → length bs ≡ length fs → length s ≡ length fs → Distinct fs
      → Each (λ x. eval O s x ≡ 𝟘) (leave bs fs)
      → quotient O s (leave bs fs) ≡ interpolate O F.inv (pick bs fs) (ratios O F.inv (leave bs fs) (pick bs fs) (pick bs (values O s fs)))
  quotient-interpolates bs fs s b l d z =
      let left = length-leave bs fs b in
      let long = length-quotient O s (leave bs fs) (omega arith) in
      let picked = length-pick bs fs b in
      let q : List K = quotient O s (leave bs fs) in
      let e : values O q (pick bs fs) ≡ ratios O F.inv (leave bs fs) (pick bs fs) (pick bs (values O s fs)) = (
      values-ratios q s (leave bs fs) (pick bs fs) (product-quotient F s (leave bs fs) (omega arith) (distinct-leave bs fs d) z) (pick-apart bs fs d)
      ∙ ap (ratios O F.inv (leave bs fs) (pick bs fs)) (map-pick (eval O s) bs fs)) in
      interpolate-unique F (pick bs fs) _ q (sym (length-map (pick bs fs) (eval O q)) ∙ ap length e) (distinct-pick bs fs d) (omega arith) e
