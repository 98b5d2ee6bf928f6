-- The laws of sums, and of a choice by a test of two numbers.
--
--   eqb_comm                the test does not depend on the order
--   cond-eq, cond-ne        the choice by a test that holds, or does not
--   sum-ext                 equal terms give equal sums
--   sum-zero                a sum of zeros is zero
--   sum-add                 the sum of sums
--   sum-swap                two sums in either order
--   sum-single              a sum with one term
--   sum-partition           where each number below n belongs to one of N parts, the sum of the parts' sums is the sum of all
--   cond-pairs, sum-pairs   a choice and a sum of pairs go part by part
use Rattle.std.specs.Prelude.{◌≡◌, Bool, true, false, eqb}
use Rattle.std.proofs.Math.Path.{refl, sym, ap, ap₂}
use Rattle.std.proofs.Common.{◌∙◌, not-suc-le-zero, le_refl, arith, eq-eqb, ne_eqb}
use Rattle.std.proofs.Math.Bool.{cond}
use Prim.Native.Nat.{ℕ, zero, suc, ◌<◌}
use Rattle.std.proofs.Math.Decide.{ℕ_discrete}
use Rattle.cube.specs.Group.{Group2, pairs}
use Rattle.cube.specs.Group.Laws.{zero-add, add4}
use Rattle.cube.specs.Sum.{sum}

-- ---- choices

pub eqb_comm : (i j : ℕ) → eqb i j ≡ eqb j i
eqb_comm i j = go (ℕ_discrete i j)
  where
    go : Dec (i ≡ j) → eqb i j ≡ eqb j i
    go (yes e) = eq-eqb i j e ∙ sym (eq-eqb j i (sym e))
    go (no e) = ne_eqb i j e ∙ sym (ne_eqb j i (λ q. e (sym q)))

pub cond-eq : {A : Type 0} (i j : ℕ) (a b : A) → i ≡ j → cond (eqb i j) a b ≡ a
cond-eq i j a b e = ap (λ (t : Bool). cond t a b) (eq-eqb i j e)

pub cond-ne : {A : Type 0} (i j : ℕ) (a b : A) → (i ≡ j → ⊥) → cond (eqb i j) a b ≡ b
cond-ne i j a b e = ap (λ (t : Bool). cond t a b) (ne_eqb i j e)

-- ---- sums

module _ {A : Type 0} (G : Group2 A) where
  infixl 60 ◌+◌
  open G use {zero as 𝟘, add as ◌+◌}

  pub sum-ext : (f g : ℕ → A) (n : ℕ) → ((i : ℕ) → i < n → f i ≡ g i) → sum G f n ≡ sum G g n
  unfolding sum
  sum-ext f g zero h = refl
  sum-ext f g (suc n) h = ap₂ ◌+◌ (sum-ext f g n (λ i l. h i (omega arith))) (h n (le_refl (suc n)))

  pub sum-zero : (f : ℕ → A) (n : ℕ) → ((i : ℕ) → i < n → f i ≡ 𝟘) → sum G f n ≡ 𝟘
  unfolding sum
  sum-zero f zero h = refl
  sum-zero f (suc n) h = ap₂ ◌+◌ (sum-zero f n (λ i l. h i (omega arith))) (h n (le_refl (suc n))) ∙ G.add-zero 𝟘

  pub sum-add : (f g : ℕ → A) (n : ℕ) → sum G (λ i. f i + g i) n ≡ sum G f n + sum G g n
  unfolding sum
  sum-add f g zero = sym (G.add-zero 𝟘)
  sum-add f g (suc n) = ap (λ (x : A). x + (f n + g n)) (sum-add f g n) ∙ add4 G (sum G f n) (sum G g n) (f n) (g n)

  pub sum-swap : (f : ℕ → ℕ → A) (n m : ℕ) → sum G (λ i. sum G (λ j. f i j) m) n ≡ sum G (λ j. sum G (λ i. f i j) n) m
  unfolding sum
  sum-swap f zero m = sym (sum-zero (λ j. 𝟘) m (λ i l. refl))
  sum-swap f (suc n) m =
      ap (λ (x : A). x + sum G (λ j. f n j) m) (sum-swap f n m) ∙ sym (sum-add (λ j. sum G (λ i. f i j) n) (λ j. f n j) m)

  pub sum-single : (f : ℕ → A) (k n : ℕ) → k < n → sum G (λ c. cond (eqb k c) (f c) 𝟘) n ≡ f k
  unfolding sum
  sum-single f k zero l = absurd (not-suc-le-zero l)
  sum-single f k (suc n) l = go (ℕ_discrete k n) (sum-single f k n)
    where
      term : ℕ → A
      term c = cond (eqb k c) (f c) 𝟘

      go : Dec (k ≡ n) → (k < n → sum G term n ≡ f k) → sum G term n + term n ≡ f k
      go (yes e) ih =
          ap₂ ◌+◌ (sum-zero term n (λ i l. cond-ne k i (f i) 𝟘 (λ q. omega arith))) (cond-eq k n (f n) 𝟘 e)
          ∙ zero-add G (f n) ∙ ap f (sym e)
      go (no e) ih = ap₂ ◌+◌ (ih (omega arith)) (cond-ne k n (f n) 𝟘 e) ∙ G.add-zero (f k)

  pub sum-partition : (part : ℕ → ℕ) (f : ℕ → A) (N n : ℕ) → ((i : ℕ) → i < n → part i < N)
      → sum G (λ c. sum G (λ i. cond (eqb (part i) c) (f i) 𝟘) n) N ≡ sum G f n
  sum-partition part f N n h =
      sum-swap (λ c i. cond (eqb (part i) c) (f i) 𝟘) N n
      ∙ sum-ext (λ i. sum G (λ c. cond (eqb (part i) c) (f i) 𝟘) N) f n (λ i l. sum-single (λ c. f i) (part i) N (h i l))

-- ---- pairs

module _ {A B : Type 0} (G : Group2 A) (H : Group2 B) where
  pub cond-pairs : (t : Bool) (x : A × B) → cond t x (pairs G H).zero ≡ (cond t x.0 G.zero, cond t x.1 H.zero)
  cond-pairs true x = refl
  cond-pairs false x = refl

  pub sum-pairs : (f : ℕ → A × B) (n : ℕ) → sum (pairs G H) f n ≡ (sum G (λ i. (f i).0) n, sum H (λ i. (f i).1) n)
  unfolding sum
  sum-pairs f zero = refl
  sum-pairs f (suc n) = ap (λ (x : A × B). (G.add x.0 (f n).0, H.add x.1 (f n).1)) (sum-pairs f n)
