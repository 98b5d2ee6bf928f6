-- The laws of the product. All but those of 1 hold of all numbers, since the product takes low bytes.
--
--   ⊗-additive-l, -r               it is additive in each factor
--   ⊗-comm, -assoc, -left-comm     from computed tests at powers of two
--   ⊗-lt                           it is a byte
--   ⊗-low                          only the low bytes count
--   one-⊗, ⊗-one                   1 times a byte, and the low byte of a number
--   bytefield                      the rule set for `simp bytefield`
--   xor_list-plus                   the sum of lists by xor is the sum of polynomials
--   byte-linear                    evaluation and interpolation over numbers are linear
use Rattle.std.specs.Prelude.{◌≡◌, refl, Bool, List, [], ◌∷◌, ℕ, zero, suc, ◌*◌, ◌/◌, ◌%◌, ◌^◌, ◌<◌, T, eqb}
use Rattle.std.proofs.Common.{sym, ap, ap₂, ◌∙◌, arith, eqb→eq}
use Rattle.algebra.specs.Polynomial.{plus}
use Rattle.algebra.specs.Polynomial.Linear.{Linear}
use Rattle.lists.specs.Xor.{◌⊕◌}
use Rattle.lists.specs.Xor.Laws.{xors, zero-⊕, ⊕-div, ⊕-mod, ⊕-shl}
use Rattle.lists.specs.Sum.{xor_list}
use Rattle.lists.specs.Computed.{all, below}
use Rattle.lists.specs.Additive.{Additive, digit-additive-l, digit-additive-r, additive-zero, additive-ext, biadditive-ext}
use Rattle.bytefield.specs.Product.{reduction, xtime, times_bits, ◌⊗◌, byte_ops}

xtime-additive : Additive xtime
unfolding xtime
xtime-additive a b =
    ap₂ ◌⊕◌ (ap (λ (x : ℕ). x % 256) (⊕-shl 1 a b) ∙ ⊕-mod 8 (a * 2) (b * 2))
    (ap (λ (x : ℕ). x % 2 * reduction) (⊕-div 7 a b) ∙ digit-additive-l reduction (a / 128) (b / 128))
    ∙ simp xors

bits-additive-r : (k a : ℕ) → Additive (times_bits k a)
unfolding times_bits
bits-additive-r zero a b b' = sym (zero-⊕ 0)
bits-additive-r (suc k) a b b' =
    ap₂ ◌⊕◌ (digit-additive-r a b b')
    (ap xtime (bits-additive-r k (a / 2) b b') ∙ xtime-additive (times_bits k (a / 2) b) (times_bits k (a / 2) b'))
    ∙ simp xors

bits-additive-l : (k b : ℕ) → Additive (λ a. times_bits k a b)
unfolding times_bits
bits-additive-l zero b a a' = sym (zero-⊕ 0)
bits-additive-l (suc k) b a a' =
    ap₂ ◌⊕◌ (digit-additive-l b a a')
    (ap xtime (ap (λ (x : ℕ). times_bits k x b) (⊕-div 1 a a') ∙ bits-additive-l k b (a / 2) (a' / 2))
    ∙ xtime-additive (times_bits k (a / 2) b) (times_bits k (a' / 2) b))
    ∙ simp xors

pub ⊗-additive-r : (a : ℕ) → Additive (λ b. a ⊗ b)
unfolding ◌⊗◌
⊗-additive-r a b b' = ap (times_bits 8 (a % 256)) (⊕-mod 8 b b') ∙ bits-additive-r 8 (a % 256) (b % 256) (b' % 256)

pub ⊗-additive-l : (b : ℕ) → Additive (λ a. a ⊗ b)
unfolding ◌⊗◌
⊗-additive-l b a a' =
    ap (λ (x : ℕ). times_bits 8 x (b % 256)) (⊕-mod 8 a a') ∙ bits-additive-l 8 (b % 256) (a % 256) (a' % 256)

mod-mod : (a : ℕ) → a % 256 % 256 ≡ a % 256
mod-mod a = omega arith

byte-lt : (a : ℕ) → a % 256 < 256
byte-lt a = omega arith

pub ⊗-low : (a b : ℕ) → a ⊗ b ≡ (a % 256) ⊗ (b % 256)
unfolding ◌⊗◌
⊗-low a b = ap₂ (times_bits 8) (sym (mod-mod a)) (sym (mod-mod b))

-- ---- the laws of a commutative product, each from a test at powers of two
comm-test : T (all 8 (λ i. all 8 (λ j. eqb (2 ^ i ⊗ 2 ^ j) (2 ^ j ⊗ 2 ^ i))))
unfolding ◌⊗◌ times_bits xtime reduction ◌⊕◌
comm-test = tt

pub ⊗-comm : (a b : ℕ) → a ⊗ b ≡ b ⊗ a
⊗-comm a b =
    ⊗-low a b
    ∙ biadditive-ext ◌⊗◌ (λ a b. b ⊗ a) ⊗-additive-l ⊗-additive-r ⊗-additive-r ⊗-additive-l comm-test (a % 256) (b % 256)
    (byte-lt a) (byte-lt b)
    ∙ sym (⊗-low b a)

one-test : T (all 8 (λ i. eqb (1 ⊗ 2 ^ i) (2 ^ i)))
unfolding ◌⊗◌ times_bits xtime reduction ◌⊕◌
one-test = tt

pub one-⊗ : (b : ℕ) → b < 256 → 1 ⊗ b ≡ b
one-⊗ b h = additive-ext 8 (λ b. 1 ⊗ b) (λ b. b) (⊗-additive-r 1) (λ a b. refl)
    (λ i hi. eqb→eq (1 ⊗ 2 ^ i) (2 ^ i) (below 8 (λ i. eqb (1 ⊗ 2 ^ i) (2 ^ i)) one-test i hi)) b h

mod-additive : (f : ℕ → ℕ) → Additive f → Additive (λ a. f a % 256)
mod-additive f h a b = ap (λ (x : ℕ). x % 256) (h a b) ∙ ⊕-mod 8 (f a) (f b)

byte-test : T (all 8 (λ i. all 8 (λ j. eqb (2 ^ i ⊗ 2 ^ j) ((2 ^ i ⊗ 2 ^ j) % 256))))
unfolding ◌⊗◌ times_bits xtime reduction ◌⊕◌
byte-test = tt

reduced : (a b : ℕ) → a < 256 → b < 256 → a ⊗ b ≡ (a ⊗ b) % 256
reduced =
    biadditive-ext ◌⊗◌ (λ a b. (a ⊗ b) % 256) ⊗-additive-l ⊗-additive-r (λ b. mod-additive (λ a. a ⊗ b) (⊗-additive-l b))
    (λ a. mod-additive (λ b. a ⊗ b) (⊗-additive-r a)) byte-test

pub ⊗-lt : (a b : ℕ) → a ⊗ b < 256
⊗-lt a b = omega (arith, ⊗-low a b, reduced (a % 256) (b % 256) (byte-lt a) (byte-lt b))

assoc-at : ℕ → ℕ → ℕ → Bool
assoc-at i j k = eqb ((2 ^ i ⊗ 2 ^ j) ⊗ 2 ^ k) (2 ^ i ⊗ (2 ^ j ⊗ 2 ^ k))

assoc-test : T (all 8 (λ i. all 8 (λ j. all 8 (λ k. assoc-at i j k))))
unfolding assoc-at ◌⊗◌ times_bits xtime reduction ◌⊕◌
assoc-test = tt

assoc-byte : (a b c : ℕ) → a < 256 → b < 256 → c < 256 → (a ⊗ b) ⊗ c ≡ a ⊗ (b ⊗ c)
unfolding assoc-at
assoc-byte a b c ha hb hc =
    additive-ext 8 (λ a. (a ⊗ b) ⊗ c) (λ a. a ⊗ (b ⊗ c))
    (λ a a'. ap (λ (x : ℕ). x ⊗ c) (⊗-additive-l b a a') ∙ ⊗-additive-l c (a ⊗ b) (a' ⊗ b))
    (⊗-additive-l (b ⊗ c))
    (λ i hi. biadditive-ext (λ b c. (2 ^ i ⊗ b) ⊗ c) (λ b c. 2 ^ i ⊗ (b ⊗ c))
    (λ c b b'. ap (λ (x : ℕ). x ⊗ c) (⊗-additive-r (2 ^ i) b b') ∙ ⊗-additive-l c (2 ^ i ⊗ b) (2 ^ i ⊗ b'))
    (λ b. ⊗-additive-r (2 ^ i ⊗ b))
    (λ c b b'. ap (λ (x : ℕ). 2 ^ i ⊗ x) (⊗-additive-l c b b') ∙ ⊗-additive-r (2 ^ i) (b ⊗ c) (b' ⊗ c))
    (λ b c c'. ap (λ (x : ℕ). 2 ^ i ⊗ x) (⊗-additive-r b c c') ∙ ⊗-additive-r (2 ^ i) (b ⊗ c) (b ⊗ c'))
    (below 8 (λ i. all 8 (λ j. all 8 (λ k. assoc-at i j k))) assoc-test i hi) b c hb hc) a ha

low-l : (a b : ℕ) → (a % 256) ⊗ b ≡ a ⊗ b
low-l a b = ⊗-low (a % 256) b ∙ ap (λ (x : ℕ). x ⊗ (b % 256)) (mod-mod a) ∙ sym (⊗-low a b)

low-r : (a b : ℕ) → a ⊗ (b % 256) ≡ a ⊗ b
low-r a b = ⊗-comm a (b % 256) ∙ low-l b a ∙ ⊗-comm b a

pub ⊗-assoc : (a b c : ℕ) → (a ⊗ b) ⊗ c ≡ a ⊗ (b ⊗ c)
⊗-assoc a b c =
    simp (low-l, low-r) at (assoc-byte (a % 256) (b % 256) (c % 256) (byte-lt a) (byte-lt b) (byte-lt c))

pub ⊗-one : (a : ℕ) → a ⊗ 1 ≡ a % 256
⊗-one a = ⊗-comm a 1 ∙ sym (low-r 1 a) ∙ one-⊗ (a % 256) (byte-lt a)

-- ---- calculation with numbers: sums and products, no side conditions
pub ⊗-add : (a b c : ℕ) → a ⊗ (b ⊕ c) ≡ a ⊗ b ⊕ a ⊗ c
⊗-add = ⊗-additive-r

pub add-⊗ : (a b c : ℕ) → (a ⊕ b) ⊗ c ≡ a ⊗ c ⊕ b ⊗ c
add-⊗ a b c = ⊗-additive-l c a b

pub ⊗-left-comm : (a b c : ℕ) → a ⊗ (b ⊗ c) ≡ b ⊗ (a ⊗ c)
⊗-left-comm a b c = sym (⊗-assoc a b c) ∙ ap (λ (x : ℕ). x ⊗ c) (⊗-comm a b) ∙ ⊗-assoc b a c

pub ⊗-zero : (a : ℕ) → a ⊗ 0 ≡ 0
⊗-zero a = additive-zero (λ b. a ⊗ b) (⊗-additive-r a)

pub zero-⊗ : (b : ℕ) → 0 ⊗ b ≡ 0
zero-⊗ b = additive-zero (λ a. a ⊗ b) (⊗-additive-l b)

pub ruleset bytefield = (xors, ⊗-comm, ⊗-assoc, ⊗-left-comm, ⊗-add, add-⊗, ⊗-zero, zero-⊗)

-- ---- polynomials
pub xor_list-plus : (p q : List ℕ) → xor_list p q ≡ plus byte_ops p q
unfolding xor_list plus
xor_list-plus [] q = refl
xor_list-plus (a ∷ p) [] = refl
xor_list-plus (a ∷ p) (b ∷ q) = ap (◌∷◌ (a ⊕ b)) (xor_list-plus p q)

linear-step : (a b f c d : ℕ) → a ⊕ b ⊕ f ⊗ (c ⊕ d) ≡ a ⊕ f ⊗ c ⊕ (b ⊕ f ⊗ d)
linear-step a b f c d = simp bytefield

linear-slope : (a b y z w : ℕ) → (a ⊕ b ⊕ (y ⊕ z)) ⊗ w ≡ (a ⊕ y) ⊗ w ⊕ (b ⊕ z) ⊗ w
linear-slope a b y z w = simp bytefield

pub byte-linear : Linear byte_ops
byte-linear = record { zero-sum = zero-⊕ 0; step_sum = linear-step; slope-sum = linear-slope }
