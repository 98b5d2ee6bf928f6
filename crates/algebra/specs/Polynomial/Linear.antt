-- Evaluation and interpolation are linear. The laws ask little of the operations, so that they hold of all numbers, bytes or not.
--
--   Linear O                            what is asked: sums can be regrouped, and products are additive
--   eval-sum, expand-sum                values, and products with X + f, of a sum of lists of one length
--   slopes-sum, interpolate-sum         interpolation of a sum of values, at any points
use Rattle.std.specs.Prelude.{◌≡◌}
use Rattle.std.proofs.Math.Path.{refl, sym, ap, ap₂}
use Rattle.std.proofs.Common.{◌∙◌, arith}
use mathlib.Core.List.{List, [], ◌∷◌}
use Prim.Native.Nat.{suc}
use Rattle.std.proofs.Math.ListN.{length}
use Rattle.algebra.specs.Operations.{Operations}
use Rattle.algebra.specs.Polynomial.{eval, plus, expand, slopes, interpolate}
use Rattle.algebra.specs.Polynomial.Lengths.{length-slopes, length-interpolate}

pub record Linear {K : Type 0} (O : Operations K) : Type 0 where
  pub zero-sum : O.add O.zero O.zero ≡ O.zero
  pub step_sum : (a b f c d : K)
      → O.add (O.add a b) (O.mul f (O.add c d)) ≡ O.add (O.add a (O.mul f c)) (O.add b (O.mul f d))
  pub slope-sum : (a b y z w : K)
      → O.mul (O.add (O.add a b) (O.add y z)) w ≡ O.add (O.mul (O.add a y) w) (O.mul (O.add b z) w)

module _ {K : Type 0} (O : Operations K) (L : Linear O) where
  pub eval-sum : (p q : List K) (x : K) → length p ≡ length q → eval O (plus O p q) x ≡ O.add (eval O p x) (eval O q x)
  unfolding eval plus
  eval-sum [] [] x e = sym L.zero-sum
  eval-sum [] (b ∷ q) x e = absurd (omega (arith, e))
  eval-sum (a ∷ p) [] x e = absurd (omega (arith, e))
  eval-sum (a ∷ p) (b ∷ q) x e =
      ap (λ (v : K). O.add (O.add a b) (O.mul x v)) (eval-sum p q x (omega (arith, e))) ∙ L.step_sum a b x (eval O p x) (eval O q x)

  pub expand-sum : (f : K) (l m : List K) → length l ≡ length m → expand O f (plus O l m) ≡ plus O (expand O f l) (expand O f m)
  unfolding expand plus
  expand-sum f [] m e = refl
  expand-sum f (a ∷ l) [] e = absurd (omega (arith, e))
  expand-sum f (a ∷ []) (b ∷ []) e = refl
  expand-sum f (a ∷ []) (b ∷ d ∷ m) e = absurd (omega (arith, e))
  expand-sum f (a ∷ c ∷ l) (b ∷ []) e = absurd (omega (arith, e))
  expand-sum f (a ∷ c ∷ l) (b ∷ d ∷ m) e = ap₂ ◌∷◌ (L.step_sum a b f c d) (expand-sum f (c ∷ l) (d ∷ m) (omega (arith, e)))

  module _ (inv : K → K) where
    pub slopes-sum : (f y z : K) (gs l m : List K) → length gs ≡ length l → length l ≡ length m
        → slopes O inv f (O.add y z) gs (plus O l m) ≡ plus O (slopes O inv f y gs l) (slopes O inv f z gs m)
    unfolding slopes plus
    slopes-sum f y z [] l m e k = refl
    slopes-sum f y z (g ∷ gs) [] m e k = absurd (omega (arith, e))
    slopes-sum f y z (g ∷ gs) (a ∷ l) [] e k = absurd (omega (arith, k))
    slopes-sum f y z (g ∷ gs) (a ∷ l) (b ∷ m) e k =
        ap₂ ◌∷◌ (L.slope-sum a b y z (inv (O.add g f))) (slopes-sum f y z gs l m (omega (arith, e)) (omega (arith, k)))

    pub interpolate-sum : (fs l m : List K) → length fs ≡ length l → length l ≡ length m
        → interpolate O inv fs (plus O l m) ≡ plus O (interpolate O inv fs l) (interpolate O inv fs m)
    unfolding interpolate plus
    interpolate-sum [] l m e k = refl
    interpolate-sum (f ∷ fs) [] m e k = absurd (omega (arith, e))
    interpolate-sum (f ∷ fs) (a ∷ l) [] e k = absurd (omega (arith, k))
    interpolate-sum (f ∷ fs) (a ∷ l) (b ∷ m) e k =
        let u : length fs ≡ length l = omega (arith, e) in
        let v : length l ≡ length m = omega (arith, k) in
        let s = length-slopes O inv f a fs l u in
        let t = length-slopes O inv f b fs m (u ∙ v) in
        let p = length-interpolate O inv fs (slopes O inv f a fs l) (u ∙ sym s) in
        let q = length-interpolate O inv fs (slopes O inv f b fs m) (u ∙ v ∙ sym t) in
        ap (λ (r : List K). expand O f (O.add a b ∷ r))
        (ap (interpolate O inv fs) (slopes-sum f a b fs l m u v)
        ∙ interpolate-sum fs (slopes O inv f a fs l) (slopes O inv f b fs m) (u ∙ sym s) (s ∙ v ∙ sym t))
        ∙ expand-sum f (a ∷ interpolate O inv fs (slopes O inv f a fs l)) (b ∷ interpolate O inv fs (slopes O inv f b fs m)) (ap suc (p ∙ sym q))
