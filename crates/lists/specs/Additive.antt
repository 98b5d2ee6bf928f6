-- Functions that are additive for xor: they are known from their values at 1, 2, 4 and so on.
--
-- Additive f                             f of an xor is the xor of f's values
-- digit-additive-l, digit-additive-r     the low digit of a times b is additive in a, and in b
-- additive-zero                          an additive function is 0 at 0
-- additive-ext                           two additive functions that agree at each power of 2 below 2^k agree below 2^k
-- biadditive-ext                         two functions, additive in each argument, that agree at the 64 pairs of bits agree on bytes
use Rattle.std.specs.Prelude.{◌≡◌, ℕ, zero, suc, ◌+◌, ◌*◌, ◌/◌, ◌%◌, ◌^◌, ◌<◌, T, eqb}
use Rattle.std.proofs.Common.{sym, ap, ap₂, ◌∙◌, subst, mod-lt, zero-mul, one-mul, arith, pow_pos, shr_lt, eqb→eq}
use Rattle.std.proofs.Math.Pow.{split}
use Rattle.lists.specs.Xor.{◌⊕◌}
use Rattle.lists.specs.Xor.Laws.{digit}
use Rattle.lists.specs.Xor.Laws.{zero-⊕, ⊕-zero, ⊕-self, ⊕-self-left, ⊕-mod, ⊕-top}
use Rattle.lists.specs.Computed.{all, below}

abbrev pub Additive : (ℕ → ℕ) → Type 0
Additive f = (a b : ℕ) → f (a ⊕ b) ≡ f a ⊕ f b

-- ---- a digit times a number

digit-mul : (p q b : ℕ) → p < 2 → q < 2 → (p ⊕ q) * b ≡ p * b ⊕ q * b
unfolding ◌⊕◌
digit-mul p q b hp hq =
    digit (λ (p : ℕ). (p ⊕ q) * b ≡ p * b ⊕ q * b) (sym (ap (λ (x : ℕ). x ⊕ q * b) (zero-mul b)))
    (digit (λ (q : ℕ). (1 ⊕ q) * b ≡ 1 * b ⊕ q * b)
    (sym (ap (λ (x : ℕ). 1 * b ⊕ x) (zero-mul b) ∙ ⊕-zero (1 * b)))
    (zero-mul b ∙ sym (⊕-self (1 * b))) q hq) p hp

pub digit-additive-l : (b : ℕ) → Additive (λ a. a % 2 * b)
digit-additive-l b a a' =
    ap (λ (x : ℕ). x * b) (⊕-mod 1 a a') ∙ digit-mul (a % 2) (a' % 2) b (omega arith) (omega arith)

pub digit-additive-r : (a : ℕ) → Additive (λ b. a % 2 * b)
digit-additive-r a b b' =
    digit (λ (p : ℕ). p * (b ⊕ b') ≡ p * b ⊕ p * b')
    (zero-mul (b ⊕ b') ∙ sym (ap₂ ◌⊕◌ (zero-mul b) (zero-mul b') ∙ zero-⊕ 0))
    (one-mul (b ⊕ b') ∙ sym (ap₂ ◌⊕◌ (one-mul b) (one-mul b'))) (a % 2) (omega arith)

-- ---- agreement

pub additive-zero : (f : ℕ → ℕ) → Additive f → f 0 ≡ 0
additive-zero f h = sym (⊕-self-left (f 0) (f 0)) ∙ ap (λ (x : ℕ). f 0 ⊕ x) (sym (h 0 0) ∙ ap f (zero-⊕ 0)) ∙ ⊕-self (f 0)

pub additive-ext : (k : ℕ) (f g : ℕ → ℕ) → Additive f → Additive g
    → ((i : ℕ) → i < k → f (2 ^ i) ≡ g (2 ^ i)) → (a : ℕ) → a < 2 ^ k → f a ≡ g a
additive-ext zero f g hf hg e a h = ap f (lt-one h) ∙ additive-zero f hf ∙ sym (additive-zero g hg) ∙ ap g (sym (lt-one h))
  where
    lt-one : {n : ℕ} → n < 1 → n ≡ 0
    lt-one h = omega arith
additive-ext (suc k) f g hf hg e a h =
    let rest : (r : ℕ) → r < 2 ^ k → f r ≡ g r = additive-ext k f g hf hg (λ i hi. e i (omega arith)) in
    ap f (sym (split a k))
    ∙ digit (λ (d : ℕ). f (d * 2 ^ k + a % 2 ^ k) ≡ g (d * 2 ^ k + a % 2 ^ k))
    (ap f low_part ∙ rest (a % 2 ^ k) small ∙ ap g (sym low_part))
    (ap f high_part ∙ hf (2 ^ k) (a % 2 ^ k) ∙ ap₂ ◌⊕◌ (e k (omega arith)) (rest (a % 2 ^ k) small)
    ∙ sym (ap g high_part ∙ hg (2 ^ k) (a % 2 ^ k)))
    (a / 2 ^ k) (shr_lt 1 k (subst (λ (n : ℕ). a < 2 ^ n) (omega arith) h))
    ∙ ap g (split a k)
  where
    small : a % 2 ^ k < 2 ^ k
    small = mod-lt a (pow_pos k)

    low_part : 0 * 2 ^ k + a % 2 ^ k ≡ a % 2 ^ k
    low_part = omega arith

    high_part : 1 * 2 ^ k + a % 2 ^ k ≡ 2 ^ k ⊕ a % 2 ^ k
    high_part = omega (arith, ⊕-top k (a % 2 ^ k) small)

pub biadditive-ext : (f g : ℕ → ℕ → ℕ) → ((b : ℕ) → Additive (λ a. f a b)) → ((a : ℕ) → Additive (f a))
    → ((b : ℕ) → Additive (λ a. g a b)) → ((a : ℕ) → Additive (g a))
    → T (all 8 (λ i. all 8 (λ j. eqb (f (2 ^ i) (2 ^ j)) (g (2 ^ i) (2 ^ j)))))
    → (a b : ℕ) → a < 256 → b < 256 → f a b ≡ g a b
biadditive-ext f g fl fr gl gr t a b ha hb =
    additive-ext 8 (λ a. f a b) (λ a. g a b) (fl b) (gl b)
    (λ i hi. additive-ext 8 (f (2 ^ i)) (g (2 ^ i)) (fr (2 ^ i)) (gr (2 ^ i))
    (λ j hj. eqb→eq (f (2 ^ i) (2 ^ j)) (g (2 ^ i) (2 ^ j))
    (below 8 (λ j. eqb (f (2 ^ i) (2 ^ j)) (g (2 ^ i) (2 ^ j)))
    (below 8 (λ i. all 8 (λ j. eqb (f (2 ^ i) (2 ^ j)) (g (2 ^ i) (2 ^ j)))) t i hi) j hj)) b hb) a ha
