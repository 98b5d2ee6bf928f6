-- A homomorphism carries over whatever is made of the operations: map h (eval O ..) is eval P of what h makes of the arguments.
--
--   map-plus, -scale, -times, -eval                    sums, multiples, products, values
--   map-expand, -divide, -product, -quotient           the steps by X + f
--   map-slopes, -interpolate                           interpolation, where h carries the inverse over too
use Rattle.std.specs.Prelude.{◌≡◌}
use Rattle.std.proofs.Math.Path.{refl, ap, ap₂}
use Rattle.std.proofs.Common.{◌∙◌}
use mathlib.Core.List.{List, [], ◌∷◌, map}
use Rattle.algebra.specs.Operations.{Operations, Homomorphism}
use Rattle.algebra.specs.Polynomial.{eval, plus, scale, times, first, behind, expand, divide, product, quotient, slopes, interpolate}

module _ {K L : Type 0} (O : Operations K) (P : Operations L) (h : K → L) (k : Homomorphism O P h) where
  step : (a f c : K) → h (O.add a (O.mul f c)) ≡ P.add (h a) (P.mul (h f) (h c))
  step a f c = k.add a (O.mul f c) ∙ ap (P.add (h a)) (k.mul f c)

  -- ---- sums, products and values
  pub map-plus : (p q : List K) → map h (plus O p q) ≡ plus P (map h p) (map h q)
  unfolding plus
  map-plus [] q = refl
  map-plus (a ∷ p) [] = refl
  map-plus (a ∷ p) (b ∷ q) = ap₂ ◌∷◌ (k.add a b) (map-plus p q)

  pub map-scale : (c : K) (p : List K) → map h (scale O c p) ≡ scale P (h c) (map h p)
  unfolding scale
  map-scale c [] = refl
  map-scale c (a ∷ p) = ap₂ ◌∷◌ (k.mul c a) (map-scale c p)

  pub map-times : (p q : List K) → map h (times O p q) ≡ times P (map h p) (map h q)
  unfolding times
  map-times [] q = refl
  map-times (a ∷ p) q =
      map-plus (scale O a q) (O.zero ∷ times O p q) ∙ ap₂ (plus P) (map-scale a q) (ap₂ ◌∷◌ k.zero (map-times p q))

  pub map-eval : (p : List K) (x : K) → h (eval O p x) ≡ eval P (map h p) (h x)
  unfolding eval
  map-eval [] x = k.zero
  map-eval (a ∷ p) x = step a x (eval O p x) ∙ ap (λ (v : L). P.add (h a) (P.mul (h x) v)) (map-eval p x)

  -- ---- by roots
  pub map-expand : (f : K) (l : List K) → map h (expand O f l) ≡ expand P (h f) (map h l)
  unfolding expand
  map-expand f [] = refl
  map-expand f (y ∷ []) = refl
  map-expand f (y ∷ c ∷ p) = ap₂ ◌∷◌ (step y f c) (map-expand f (c ∷ p))

  map_first : (l : List K) → h (first O l) ≡ first P (map h l)
  map_first [] = k.zero
  map_first (a ∷ l) = refl

  map-behind : (l : List K) → map h (behind O l) ≡ behind P (map h l)
  map-behind [] = refl
  map-behind (a ∷ l) = refl

  pub map-divide : (f : K) (l : List K) → map h (divide O f l) ≡ divide P (h f) (map h l)
  unfolding divide
  map-divide f [] = refl
  map-divide f (b ∷ p) =
      ap₂ ◌∷◌ (step b f _ ∙ ap (λ (v : L). P.add (h b) (P.mul (h f) v)) (map_first (divide O f p) ∙ ap (first P) (map-divide f p))) (map-divide f p)

  pub map-product : (p fs : List K) → map h (product O p fs) ≡ product P (map h p) (map h fs)
  unfolding product
  map-product p [] = refl
  map-product p (f ∷ fs) =
      map-product (expand O f (O.zero ∷ p)) fs
      ∙ ap (λ (l : List L). product P l (map h fs)) (map-expand f (O.zero ∷ p) ∙ ap (λ (z : L). expand P (h f) (z ∷ map h p)) k.zero)

  pub map-quotient : (p fs : List K) → map h (quotient O p fs) ≡ quotient P (map h p) (map h fs)
  unfolding quotient
  map-quotient p [] = refl
  map-quotient p (f ∷ fs) =
      map-quotient (behind O (divide O f p)) fs
      ∙ ap (λ (l : List L). quotient P l (map h fs)) (map-behind (divide O f p) ∙ ap (behind P) (map-divide f p))

  -- ---- with an inverse that goes over too
  pub map-slopes : (inv : K → K) (inv' : L → L) → ((a : K) → h (inv a) ≡ inv' (h a)) → (f y : K) (gs zs : List K)
      → map h (slopes O inv f y gs zs) ≡ slopes P inv' (h f) (h y) (map h gs) (map h zs)
  unfolding slopes
  map-slopes inv inv' e f y [] zs = refl
  map-slopes inv inv' e f y (g ∷ gs) [] = refl
  map-slopes inv inv' e f y (g ∷ gs) (z ∷ zs) =
      ap₂ ◌∷◌ (k.mul _ _ ∙ ap₂ P.mul (k.add z y) (e (O.add g f) ∙ ap inv' (k.add g f))) (map-slopes inv inv' e f y gs zs)

  pub map-interpolate : (inv : K → K) (inv' : L → L) → ((a : K) → h (inv a) ≡ inv' (h a)) → (fs ys : List K)
      → map h (interpolate O inv fs ys) ≡ interpolate P inv' (map h fs) (map h ys)
  unfolding interpolate
  map-interpolate inv inv' e [] ys = refl
  map-interpolate inv inv' e (f ∷ fs) [] = refl
  map-interpolate inv inv' e (f ∷ fs) (y ∷ ys) =
      map-expand f (y ∷ interpolate O inv fs (slopes O inv f y fs ys))
      ∙ ap (λ (l : List L). expand P (h f) (h y ∷ l))
      (map-interpolate inv inv' e fs (slopes O inv f y fs ys) ∙ ap (interpolate P inv' (map h fs)) (map-slopes inv inv' e f y fs ys))
