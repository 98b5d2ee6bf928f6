-- A polynomial s with s·(q + X^w) = p·vanishing at enough points has few values that are not zero.
--
--   support fs ys      the points of fs whose value in ys is not zero
--   weight-bound       if s times q with a leading 1 agrees with p times vanishing fs at as many points as these have coefficients,
--                      at most length q of the values of s at fs are not zero
use Rattle.std.specs.Prelude.{◌≡◌, ◌≤◌, ◌+◌ as ◌+ℕ◌, length}
use Rattle.std.proofs.Common.{sym, ap, ◌∙◌, arith, length-append}
use mathlib.Core.List.{List, [], ◌∷◌, ◌++◌}
use Rattle.algebra.specs.Operations.{Operations}
use Rattle.algebra.specs.Ring.{ops}
use Rattle.algebra.specs.Ring.Laws.{mul-zero}
use Rattle.algebra.specs.Field.{Field2}
use Rattle.algebra.specs.Field.Laws.{no-zero-divisor}
use Rattle.algebra.specs.Each.{Each, Distinct}
use Rattle.algebra.specs.Each.Laws.{each_map}
use Rattle.algebra.specs.Polynomial.{eval, times, first, behind, vanishing, values}
use Rattle.algebra.specs.Polynomial.Lengths.{length-product, length-times}
use Rattle.algebra.specs.Polynomial.Evaluation.{eval-times}
use Rattle.algebra.specs.Polynomial.Roots.{few-roots, agree}
use Rattle.algebra.specs.Polynomial.Products.{product-roots}

module _ {K : Type 0} (F : Field2 K) where
  infixl 60 ◌+◌
  infixl 70 ◌*◌
  open F.base use {zero as 𝟘, one as 𝟙, add as ◌+◌, mul as ◌*◌}

  abbrev O : Operations K
  O = ops F.base

  -- ---- the support
  unfoldable pub keep_nonzero : {y : K} → Dec (y ≡ 𝟘) → K → List K → List K
  keep_nonzero (yes e) f r = r
  keep_nonzero (no e) f r = f ∷ r

  unfoldable pub support : List K → List K → List K
  support [] ys = []
  support (f ∷ fs) [] = []
  support (f ∷ fs) (y ∷ ys) = keep_nonzero (F.zero? y) f (support fs ys)

  each_keep : (P : K → Type 0) {y : K} (d : Dec (y ≡ 𝟘)) (f : K) (r : List K) → P f → Each P r → Each P (keep_nonzero d f r)
  unfolding keep_nonzero
  each_keep P (yes e) f r h k = k
  each_keep P (no e) f r h k = (h, k)

  each-support : (P : K → Type 0) (fs ys : List K) → Each P fs → Each P (support fs ys)
  unfolding support
  each-support P [] ys h = tt
  each-support P (f ∷ fs) [] h = tt
  each-support P (f ∷ fs) (y ∷ ys) h = each_keep P (F.zero? y) f (support fs ys) h.0 (each-support P fs ys h.1)

  distinct-keep : {y : K} (d : Dec (y ≡ 𝟘)) (f : K) (r : List K) → Each (λ g. g ≡ f → ⊥) r → Distinct r → Distinct (keep_nonzero d f r)
  unfolding keep_nonzero
  distinct-keep (yes e) f r h k = k
  distinct-keep (no e) f r h k = (h, k)

  distinct-support : (fs ys : List K) → Distinct fs → Distinct (support fs ys)
  unfolding support
  distinct-support [] ys d = tt
  distinct-support (f ∷ fs) [] d = tt
  distinct-support (f ∷ fs) (y ∷ ys) d =
      distinct-keep (F.zero? y) f (support fs ys) (each-support (λ g. g ≡ f → ⊥) fs ys d.0) (distinct-support fs ys d.1)

  -- ---- where S is not zero, Q is, if S Q vanishes there
  here-root : (s q : List K) (f y : K) (d : Dec (y ≡ 𝟘)) (r : List K) → eval O s f ≡ y → eval O s f * eval O q f ≡ 𝟘
      → Each (λ g. eval O q g ≡ 𝟘) r → Each (λ g. eval O q g ≡ 𝟘) (keep_nonzero d f r)
  unfolding keep_nonzero
  here-root s q f y (yes z) r e h k = k
  here-root s q f y (no n) r e h k = (no-zero-divisor F (eval O s f) (eval O q f) h (λ z. n (sym e ∙ z)), k)

  support-roots : (s q fs ys : List K) → values O s fs ≡ ys → Each (λ f. eval O s f * eval O q f ≡ 𝟘) fs
      → Each (λ f. eval O q f ≡ 𝟘) (support fs ys)
  unfolding support
  support-roots s q [] ys e h = tt
  support-roots s q (f ∷ fs) [] e h = tt
  support-roots s q (f ∷ fs) (y ∷ ys) e h =
      here-root s q f y (F.zero? y) (support fs ys) (ap (first O) e) h.0 (support-roots s q fs ys (ap (behind O) e) h.1)

  -- ---- the bound
  pub weight-bound : (fs ys s q p rs : List K) → values O s fs ≡ ys → Distinct fs → Distinct rs
      → length s +ℕ length q ≤ length rs → length p +ℕ length fs ≤ length rs
      → Each (λ r. eval O s r * eval O (q ++ (𝟙 ∷ [])) r ≡ eval O p r * eval O (vanishing O fs) r) rs
      → length (support fs ys) ≤ length q
  weight-bound fs ys s q p rs e df dr hs hp h =
      let a : List K = times O s (q ++ (𝟙 ∷ [])) in
      let b : List K = times O p (vanishing O fs) in
      let lq = length-append q (𝟙 ∷ []) in
      let lv = length-product O (𝟙 ∷ []) fs in
      let la = length-times O s (q ++ (𝟙 ∷ [])) 0 (omega arith) in
      let lb = length-times O p (vanishing O fs) 0 (omega arith) in
      few-roots F q (support fs ys) (distinct-support fs ys df)
      (support-roots s (q ++ (𝟙 ∷ [])) fs ys e
      (each_map
      (λ f z. sym (eval-times F.base s (q ++ (𝟙 ∷ [])) f)
      ∙ agree F rs a b (omega arith) (omega arith) dr
      (each_map (λ r k. eval-times F.base s (q ++ (𝟙 ∷ [])) r ∙ k ∙ sym (eval-times F.base p (vanishing O fs) r)) rs h) f
      ∙ eval-times F.base p (vanishing O fs) f ∙ ap (◌*◌ (eval O p f)) z ∙ mul-zero F.base (eval O p f))
      fs (product-roots F.base (𝟙 ∷ []) fs)))
