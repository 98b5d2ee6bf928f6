-- Products by roots, over any ring of characteristic 2.
--
--   swap, product-expand     the order of the factors X + f does not matter
--   product-split            the factors that marks leave, then those that they pick: all factors
--   expand-plus, -scale      multiplying by X + f is linear
--   times-expand, -product   a product of polynomials with a factor X + f, and with several
--   times-one, -vanishing    p times 1, and p times the product of X + f over fs
--   plus_nil                 a sum with nothing
--   product-roots            a product vanishes at its roots
--   eval-product-step        the value of a product with one factor more
--   leading-product          the highest coefficient of a product is that of the polynomial it started from: vanishing fs is monic
use Rattle.std.specs.Prelude.{◌≡◌, Bool, true, false, ℕ, suc, ◌≤◌, length}
use Rattle.std.proofs.Math.Path.{refl, sym, ap, ap₂}
use Rattle.std.proofs.Common.{◌∙◌, not-suc-le-zero, arith}
use mathlib.Core.List.{List, [], ◌∷◌, ◌++◌}
use Rattle.algebra.specs.Operations.{Operations}
use Rattle.algebra.specs.Ring.{Ring2, ops}
use Rattle.algebra.specs.Ring.Laws.{ring, combine}
use Rattle.algebra.specs.Each.{Each}
use Rattle.algebra.specs.Each.Laws.{each_map}
use Rattle.algebra.specs.Marks.{pick, leave}
use Rattle.algebra.specs.Polynomial.{eval, plus, scale, times, first, expand, product, vanishing}
use Rattle.algebra.specs.Polynomial.Lengths.{length-expand, length-scale}
use Rattle.algebra.specs.Polynomial.Evaluation.{eval-expand}

module _ {K : Type 0} (R : Ring2 K) where
  infixl 60 ◌+◌
  infixl 70 ◌*◌
  open R use {zero as 𝟘, one as 𝟙, add as ◌+◌, mul as ◌*◌}

  abbrev O : Operations K
  O = ops R

  -- ---- roots in any order
  cross-end : (f g a b : K) → a + f * 𝟘 ≡ b + g * 𝟘 → a ≡ b
  cross-end f g a b h = combine R 𝟙 _ _ h (simp (ring, R))

  cross_head : (f g a b l m : K) → a + f * l ≡ b + g * l → a + f * (l + g * m) ≡ b + g * (l + f * m)
  cross_head f g a b l m h = combine R 𝟙 _ _ h (simp (ring, R))

  cross-next : (f g l m : K) → l + g * m + f * m ≡ l + f * m + g * m
  cross-next f g l m = simp (ring, R)

  cross : (f g a b : K) (l : List K) → a + f * first O l ≡ b + g * first O l
      → expand O f (a ∷ expand O g l) ≡ expand O g (b ∷ expand O f l)
  unfolding expand
  cross f g a b [] h = ap (λ (v : K). v ∷ []) (cross-end f g a b h)
  cross f g a b (l ∷ []) h = ap (λ (v : K). v ∷ l ∷ []) h
  cross f g a b (l ∷ m ∷ p) h = ap₂ ◌∷◌ (cross_head f g a b l m h) (cross f g (l + g * m) (l + f * m) (m ∷ p) (cross-next f g l m))

  cross-zero : (f g : K) → 𝟘 + f * 𝟘 ≡ 𝟘 + g * 𝟘
  cross-zero f g = simp (ring, R)

  pub swap : (f g : K) (p : List K) → expand O f (𝟘 ∷ expand O g (𝟘 ∷ p)) ≡ expand O g (𝟘 ∷ expand O f (𝟘 ∷ p))
  swap f g p = cross f g 𝟘 𝟘 (𝟘 ∷ p) (cross-zero f g)

  pub product-expand : (g : K) (p fs : List K) → product O (expand O g (𝟘 ∷ p)) fs ≡ expand O g (𝟘 ∷ product O p fs)
  unfolding product
  product-expand g p [] = refl
  product-expand g p (f ∷ fs) = ap (λ (l : List K). product O l fs) (swap f g p) ∙ product-expand g (expand O f (𝟘 ∷ p)) fs

  pub product-split : (bs : List Bool) (p fs : List K) → product O (product O p (leave bs fs)) (pick bs fs) ≡ product O p fs
  unfolding product pick leave
  product-split [] p fs = refl
  product-split (b ∷ bs) p [] = refl
  product-split (true ∷ bs) p (f ∷ fs) =
      ap (λ (l : List K). product O l (pick bs fs)) (sym (product-expand f p (leave bs fs)))
      ∙ product-split bs (expand O f (𝟘 ∷ p)) fs
  product-split (false ∷ bs) p (f ∷ fs) = product-split bs (expand O f (𝟘 ∷ p)) fs

  -- ---- the product of two polynomials, root by root
  add_right : (a b c : K) → a + b + c ≡ a + (b + c)
  add_right a b c = simp (ring, R)

  expand-plus-step : (a b f c d : K) → a + b + f * (c + d) ≡ a + f * c + (b + f * d)
  expand-plus-step a b f c d = simp (ring, R)

  expand-plus-left : (a b f c : K) → a + b + f * c ≡ a + f * c + b
  expand-plus-left a b f c = simp (ring, R)

  pub plus_nil : (l : List K) → plus O l [] ≡ l
  unfolding plus
  plus_nil [] = refl
  plus_nil (x ∷ l) = refl

  pub expand-plus : (f : K) (l m : List K) → expand O f (plus O l m) ≡ plus O (expand O f l) (expand O f m)
  unfolding expand plus
  expand-plus f [] m = refl
  expand-plus f (a ∷ []) [] = refl
  expand-plus f (a ∷ []) (b ∷ []) = refl
  expand-plus f (a ∷ []) (b ∷ d ∷ m) = ap (λ (v : K). v ∷ expand O f (d ∷ m)) (add_right a b (f * d))
  expand-plus f (a ∷ c ∷ l) [] = refl
  expand-plus f (a ∷ c ∷ l) (b ∷ []) = ap₂ ◌∷◌ (expand-plus-left a b f c) (sym (plus_nil (expand O f (c ∷ l))))
  expand-plus f (a ∷ c ∷ l) (b ∷ d ∷ m) = ap₂ ◌∷◌ (expand-plus-step a b f c d) (expand-plus f (c ∷ l) (d ∷ m))

  scale-ring : (s a f c : K) → s * a + f * (s * c) ≡ s * (a + f * c)
  scale-ring s a f c = simp (ring, R)

  pub expand-scale : (f s : K) (l : List K) → expand O f (scale O s l) ≡ scale O s (expand O f l)
  unfolding expand scale
  expand-scale f s [] = refl
  expand-scale f s (a ∷ []) = refl
  expand-scale f s (a ∷ c ∷ l) = ap₂ ◌∷◌ (scale-ring s a f c) (expand-scale f s (c ∷ l))

  shift-ring : (f : K) → 𝟘 + f * 𝟘 ≡ 𝟘
  shift-ring f = simp (ring, R)

  expand-shift : (f : K) (l : List K) → expand O f (𝟘 ∷ 𝟘 ∷ l) ≡ 𝟘 ∷ expand O f (𝟘 ∷ l)
  unfolding expand
  expand-shift f l = ap (λ (v : K). v ∷ expand O f (𝟘 ∷ l)) (shift-ring f)

  -- a list with 0 added, which changes nothing if the list is not empty
  add_nothing : (l : List K) (n : ℕ) → suc n ≤ length l → plus O l (𝟘 ∷ []) ≡ l
  unfolding plus
  add_nothing [] n h = absurd (not-suc-le-zero h)
  add_nothing (a ∷ []) n h = ap (λ (v : K). v ∷ []) (R.add-zero a)
  add_nothing (a ∷ b ∷ l) n h = ap (λ (v : K). v ∷ b ∷ l) (R.add-zero a)

  top-zero : (a : K) → a * 𝟘 + 𝟘 ≡ 𝟘
  top-zero a = simp (ring, R)

  top-scale : (a : K) (l m : List K) → plus O (scale O a (𝟘 ∷ l)) (𝟘 ∷ m) ≡ 𝟘 ∷ plus O (scale O a l) m
  unfolding plus scale
  top-scale a l m = ap (λ (v : K). v ∷ plus O (scale O a l) m) (top-zero a)

  nil : (a b : K) (q : List K) → plus O (scale O a (b ∷ q)) [] ≡ plus O (scale O a (b ∷ q)) (𝟘 ∷ [])
  nil a b q = plus_nil (scale O a (b ∷ q)) ∙ sym (add_nothing (scale O a (b ∷ q)) 0 (omega (arith, length-scale O a (b ∷ q))))

  -- p times (X + f) q, where neither is empty
  pub times-expand : (f a : K) (p : List K) (b : K) (q : List K)
      → times O (a ∷ p) (expand O f (𝟘 ∷ b ∷ q)) ≡ expand O f (𝟘 ∷ times O (a ∷ p) (b ∷ q))
  unfolding times
  times-expand f a [] b q =
      let w = length-expand O f (𝟘 ∷ b ∷ q) in
      let s = length-scale O a (expand O f (𝟘 ∷ b ∷ q)) in
      let k = length-scale O a (b ∷ q) in
      add_nothing (scale O a (expand O f (𝟘 ∷ b ∷ q))) 0 (omega arith)
      ∙ sym (expand-scale f a (𝟘 ∷ b ∷ q))
      ∙ ap (expand O f) (sym (add_nothing (scale O a (𝟘 ∷ b ∷ q)) 0 (omega (arith, length-scale O a (𝟘 ∷ b ∷ q)))) ∙ top-scale a (b ∷ q) [] ∙ ap (◌∷◌ 𝟘) (nil a b q))
  times-expand f a (c ∷ p) b q =
      ap₂ (plus O) (sym (expand-scale f a (𝟘 ∷ b ∷ q)))
      (ap (◌∷◌ 𝟘) (times-expand f c p b q) ∙ sym (expand-shift f (times O (c ∷ p) (b ∷ q))))
      ∙ sym (expand-plus f (scale O a (𝟘 ∷ b ∷ q)) (𝟘 ∷ 𝟘 ∷ times O (c ∷ p) (b ∷ q)))
      ∙ ap (expand O f) (top-scale a (b ∷ q) (𝟘 ∷ times O (c ∷ p) (b ∷ q)))

  pub times-product : (a : K) (p : List K) (b : K) (q fs : List K)
      → times O (a ∷ p) (product O (b ∷ q) fs) ≡ product O (times O (a ∷ p) (b ∷ q)) fs
  unfolding product expand
  times-product a p b q [] = refl
  times-product a p b q (f ∷ fs) =
      times-product a p (𝟘 + f * b) (expand O f (b ∷ q)) fs
      ∙ ap (λ (l : List K). product O l fs) (times-expand f a p b q)

  one-ring : (a : K) → a * 𝟙 + 𝟘 ≡ a
  one-ring a = simp (ring, R)

  pub times-one : (p : List K) → times O p (𝟙 ∷ []) ≡ p
  unfolding times plus scale
  times-one [] = refl
  times-one (a ∷ p) = ap₂ ◌∷◌ (one-ring a) (times-one p)

  pub times-vanishing : (p fs : List K) (n : ℕ) → suc n ≤ length p → times O p (vanishing O fs) ≡ product O p fs
  times-vanishing [] fs n h = absurd (not-suc-le-zero h)
  times-vanishing (a ∷ p) fs n h = times-product a p 𝟙 [] fs ∙ ap (λ (l : List K). product O l fs) (times-one (a ∷ p))

  -- ---- values
  drop-zero : (x f v : K) → 𝟘 + (x + f) * v ≡ (x + f) * v
  drop-zero x f v = simp (ring, R)

  pub eval-product-step : (f : K) (p fs : List K) (x : K) → eval O (product O p (f ∷ fs)) x ≡ (x + f) * eval O (product O p fs) x
  unfolding product
  eval-product-step f p fs x =
      ap (λ (l : List K). eval O l x) (product-expand f p fs) ∙ eval-expand R f 𝟘 (product O p fs) x ∙ drop-zero x f (eval O (product O p fs) x)

  root-here : (f v : K) → (f + f) * v ≡ 𝟘
  root-here f v = simp (ring, R)

  root-there : (x f v : K) → v ≡ 𝟘 → (x + f) * v ≡ 𝟘
  root-there x f v h = combine R (x + f) _ _ h (simp (ring, R))

  pub product-roots : (p fs : List K) → Each (λ f. eval O (product O p fs) f ≡ 𝟘) fs
  product-roots p [] = tt
  product-roots p (f ∷ fs) = (
    eval-product-step f p fs f ∙ root-here f _,
    each_map (λ x z. eval-product-step f p fs x ∙ root-there x f _ z) fs (product-roots p fs),
  )

  -- ---- the highest coefficient
  leading-expand : (f : K) (q : List K) (c : K) → (r : List K) × (expand O f (q ++ (c ∷ [])) ≡ r ++ (c ∷ []))
  unfolding expand
  leading-expand f [] c = ([], refl)
  leading-expand f (a ∷ []) c = ((a + f * c) ∷ [], refl)
  leading-expand f (a ∷ b ∷ q) c =
      let ih = leading-expand f (b ∷ q) c in
      ((a + f * b) ∷ ih.0, ap (◌∷◌ (a + f * b)) ih.1)

  pub leading-product : (q : List K) (c : K) (fs : List K) → (r : List K) × (product O (q ++ (c ∷ [])) fs ≡ r ++ (c ∷ []))
  unfolding product
  leading-product q c [] = (q, refl)
  leading-product q c (f ∷ fs) =
      let step = leading-expand f (𝟘 ∷ q) c in
      let ih = leading-product step.0 c fs in
      (ih.0, ap (λ (l : List K). product O l fs) step.1 ∙ ih.1)
