-- Roots of polynomials, over a field of characteristic 2.
--
--   exact            division by X + f of a polynomial that vanishes at f has no remainder
--   root-of-quotient a root of (X + f) q other than f is one of q
--   root-bound       n coefficients that vanish at n points, no two of them equal, are all zero
--   unique           polynomials of one length that agree at as many points are equal
--   agree            polynomials of at most n coefficients that agree at n points agree everywhere
--   few-roots        with a leading 1: at most as many roots as lower coefficients
use Rattle.std.specs.Prelude.{◌≡◌, refl, ℕ, suc, ◌≤◌}
use Rattle.std.proofs.Common.{sym, ◌∙◌, zero-le, suc-le-suc, le_of_suc-le-suc, not-suc-le-zero, le_of_eq, arith, length-append}
use Rattle.std.proofs.Math.Path.{ap, subst}
use mathlib.Core.List.{List, [], ◌∷◌, ◌++◌}
use Rattle.std.proofs.Math.Decide.{dec_le}
use Rattle.std.proofs.Math.ListN.{length}
use Rattle.algebra.specs.Operations.{Operations}
use Rattle.algebra.specs.Ring.{Ring2, ops}
use Rattle.algebra.specs.Ring.Laws.{ring, combine, equal-of-sum}
use Rattle.algebra.specs.Field.{Field2}
use Rattle.algebra.specs.Field.Laws.{no-zero-divisor}
use Rattle.algebra.specs.Each.{Each, Distinct}
use Rattle.algebra.specs.Each.Laws.{each_map, each-map₂}
use Rattle.algebra.specs.Polynomial.{eval, plus, behind, expand, divide, Zeros}
use Rattle.algebra.specs.Polynomial.Lengths.{length-divide, length-plus, length-plus-le}
use Rattle.algebra.specs.Polynomial.Evaluation.{eval-plus, eval-zeros, eval-expand, first-divide, expand-divide, plus-zeros}

module _ {K : Type 0} (R : Ring2 K) where
  infixl 60 ◌+◌
  infixl 70 ◌*◌
  open R use {zero as 𝟘, one as 𝟙, add as ◌+◌, mul as ◌*◌}

  pub exact : (f : K) (p : List K) (n : ℕ) → suc n ≤ length p → eval (ops R) p f ≡ 𝟘
      → expand (ops R) f (𝟘 ∷ behind (ops R) (divide (ops R) f p)) ≡ p
  unfolding divide
  exact f [] n h e = absurd (not-suc-le-zero h)
  exact f (a ∷ p) n h e =
      ap (λ (v : K). expand (ops R) f (v ∷ divide (ops R) f p)) (sym (first-divide R f (a ∷ p) ∙ e)) ∙ expand-divide R f (a ∷ p)

  expand-zeros-step : (f c : K) → c ≡ 𝟘 → 𝟘 + f * c ≡ 𝟘
  expand-zeros-step f c h = combine R f _ _ h (simp (ring, R))

  -- (X + f) times zero is zero
  expand-zeros : (f : K) (p : List K) → Zeros (ops R) p → Zeros (ops R) (expand (ops R) f (𝟘 ∷ p))
  unfolding expand
  expand-zeros f [] z = (refl, tt)
  expand-zeros f (c ∷ p) z =
      (expand-zeros-step f c z.0, subst (λ (y : K). Zeros (ops R) (expand (ops R) f (y ∷ p))) (sym z.0) (expand-zeros f p z.1))

module _ {K : Type 0} (F : Field2 K) where
  infixl 60 ◌+◌
  infixl 70 ◌*◌
  open F.base use {zero as 𝟘, one as 𝟙, add as ◌+◌, mul as ◌*◌}

  abbrev O : Operations K
  O = ops F.base

  rest-ring : (x f v : K) → 𝟘 + (x + f) * v ≡ (x + f) * v
  rest-ring x f v = simp (ring, F.base)

  pub root-of-quotient : (f : K) (p q : List K) (x : K) → expand O f (𝟘 ∷ q) ≡ p → (x ≡ f → ⊥) → eval O p x ≡ 𝟘 → eval O q x ≡ 𝟘
  root-of-quotient f p q x w n e =
      no-zero-divisor F (x + f) (eval O q x)
      (sym (ap (λ (l : List K). eval O l x) (sym w) ∙ eval-expand F.base f 𝟘 q x ∙ rest-ring x f (eval O q x)) ∙ e)
      (λ z. n (equal-of-sum F.base x f z))

  pub root-bound : (xs p : List K) → length p ≤ length xs → Distinct xs → Each (λ x. eval O p x ≡ 𝟘) xs → Zeros O p
  unfolding divide
  root-bound [] [] l d e = tt
  root-bound [] (a ∷ p) l d e = absurd (not-suc-le-zero l)
  root-bound (f ∷ xs) [] l d e = tt
  root-bound (f ∷ xs) (a ∷ p) l d e =
      let q : List K = divide O f p in
      let w : expand O f (𝟘 ∷ q) ≡ a ∷ p = exact F.base f (a ∷ p) 0 (suc-le-suc zero-le) e.0 in
      subst (Zeros O) w
      (expand-zeros F.base f q
      (root-bound xs q (subst (λ n. n ≤ length xs) (sym (length-divide O f p)) (le_of_suc-le-suc l)) d.1
      (each-map₂ (λ x z n. root-of-quotient f (a ∷ p) q x w n z) xs e.1 d.0)))

  -- ---- polynomials that agree at enough points
  sum-root : (p q : List K) (x : K) → eval O p x ≡ eval O q x → eval O (plus O p q) x ≡ 𝟘
  sum-root p q x z =
      eval-plus F.base p q x ∙ ap (λ (y : K). y + eval O q x) z ∙ F.base.add-self (eval O q x)

  pub unique : (xs p q : List K) → length p ≡ length q → length p ≤ length xs → Distinct xs
      → Each (λ x. eval O p x ≡ eval O q x) xs → p ≡ q
  unique xs p q l h d e =
      plus-zeros F.base p q l
      (root-bound xs (plus O p q) (omega (arith, length-plus O p q (le_of_eq l))) d
      (each_map (λ x z. sum-root p q x z) xs e))

  pub agree : (xs p q : List K) → length p ≤ length xs → length q ≤ length xs → Distinct xs
      → Each (λ x. eval O p x ≡ eval O q x) xs → (x : K) → eval O p x ≡ eval O q x
  agree xs p q h k d e x =
      equal-of-sum F.base (eval O p x) (eval O q x)
      (sym (eval-plus F.base p q x)
      ∙ eval-zeros F.base (plus O p q)
      (root-bound xs (plus O p q) (length-plus-le O p q (length xs) h k) d
      (each_map (λ y z. sum-root p q y z) xs e)) x)

  -- ---- a leading 1
  last-zero : (q : List K) → Zeros O (q ++ (𝟙 ∷ [])) → ⊥
  last-zero [] z = F.one≢zero z.0
  last-zero (a ∷ q) z = last-zero q z.1

  pub few-roots : (q xs : List K) → Distinct xs → Each (λ x. eval O (q ++ (𝟙 ∷ [])) x ≡ 𝟘) xs → length xs ≤ length q
  few-roots q xs d e = go (dec_le (length xs) (length q))
    where
      go : Dec (length xs ≤ length q) → length xs ≤ length q
      go (yes h) = h
      go (no n) = absurd (last-zero q (root-bound xs (q ++ (𝟙 ∷ [])) (omega (arith, n, length-append q (𝟙 ∷ []))) d e))
