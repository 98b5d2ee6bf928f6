-- Division by roots, over a field of characteristic 2.
--
--   product-quotient         division by roots of p, no two of them equal, is exact
--   vanishing-elsewhere      vanishing fs is zero at no point outside fs
--   relation                 s divided by the factors that marks leave, times all factors, is s times the factors that marks pick
--                            (document 01: P = S·Q/F, so P·F = S·Q)
use Rattle.std.specs.Prelude.{◌≡◌, Bool, suc, ◌≤◌}
use Rattle.std.proofs.Math.Path.{refl, ap}
use Rattle.std.proofs.Common.{sym, ◌∙◌}
use mathlib.Core.List.{List, [], ◌∷◌}
use native.Mathlib.Omega.{arith}
use Rattle.std.proofs.Math.ListN.{length}
use Rattle.algebra.specs.Operations.{Operations}
use Rattle.algebra.specs.Ring.{ops}
use Rattle.algebra.specs.Ring.Laws.{ring, equal-of-sum}
use Rattle.algebra.specs.Field.{Field2}
use Rattle.algebra.specs.Field.Laws.{no-zero-divisor}
use Rattle.algebra.specs.Each.{Each, Distinct}
use Rattle.algebra.specs.Each.Laws.{each-map₂}
use Rattle.algebra.specs.Marks.{pick, leave}
use Rattle.algebra.specs.Polynomial.{eval, times, behind, expand, divide, product, quotient, vanishing}
use Rattle.algebra.specs.Polynomial.Lengths.{length-expand, length-quotient}
use Rattle.algebra.specs.Polynomial.Roots.{exact, root-of-quotient}
use Rattle.algebra.specs.Polynomial.Products.{product-expand, product-split, times-vanishing, eval-product-step}

module _ {K : Type 0} (F : Field2 K) where
  infixl 60 ◌+◌
  infixl 70 ◌*◌
  open F.base use {zero as 𝟘, one as 𝟙, add as ◌+◌, mul as ◌*◌}

  abbrev O : Operations K
  O = ops F.base

  pub product-quotient : (p fs : List K) → length fs ≤ length p → Distinct fs → Each (λ x. eval O p x ≡ 𝟘) fs
      → product O (quotient O p fs) fs ≡ p
  unfolding product quotient
  product-quotient p [] h d e = refl
  product-quotient p (f ∷ fs) h d e =
      let q : List K = behind O (divide O f p) in
      let w : expand O f (𝟘 ∷ q) ≡ p = exact F.base f p (length fs) h e.0 in
      product-expand F.base f (quotient O q fs) fs
      ∙ ap (λ (l : List K). expand O f (𝟘 ∷ l))
      (product-quotient q fs (shorter q w) d.1 (each-map₂ (λ x n z. root-of-quotient F f p q x w n z) fs d.0 e.1))
      ∙ w
    where
      shorter : (q : List K) → expand O f (𝟘 ∷ q) ≡ p → length fs ≤ length q
      shorter q w = let l = length-expand O f (𝟘 ∷ q) in let m = ap length w in omega arith

  one_value : (x : K) → 𝟙 + x * 𝟘 ≡ 𝟙
  one_value x = simp (ring, F.base)

  pub vanishing-elsewhere : (fs : List K) (x : K) → Each (λ f. x ≡ f → ⊥) fs → eval O (vanishing O fs) x ≡ 𝟘 → ⊥
  unfolding eval product
  vanishing-elsewhere [] x n z = F.one≢zero (sym (one_value x) ∙ z)
  vanishing-elsewhere (f ∷ fs) x n z =
      vanishing-elsewhere fs x n.1
      (no-zero-divisor F (x + f) (eval O (vanishing O fs) x) (sym (eval-product-step F.base f (𝟙 ∷ []) fs x) ∙ z)
      (λ s. n.0 (equal-of-sum F.base x f s)))

  -- ---- P is S divided by the factors that Q leaves; then P F = S Q
  module _ (bs : List Bool) (fs s : List K) (distinct : Distinct (leave bs fs)) (long : suc (length (leave bs fs)) ≤ length s)
      (roots : Each (λ x. eval O s x ≡ 𝟘) (leave bs fs)) where
    pub relation : times O (quotient O s (leave bs fs)) (vanishing O fs) ≡ times O s (vanishing O (pick bs fs))
    relation =
        let l = length-quotient O s (leave bs fs) (omega arith) in
        times-vanishing F.base (quotient O s (leave bs fs)) fs 0 (omega arith)
        ∙ sym (product-split F.base bs (quotient O s (leave bs fs)) fs)
        ∙ ap (λ (l : List K). product O l (pick bs fs)) (product-quotient s (leave bs fs) (omega arith) distinct roots)
        ∙ sym (times-vanishing F.base s (pick bs fs) (length (leave bs fs)) long)
