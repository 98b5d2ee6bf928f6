-- Laws of what specs/Xor.antt defines.
--
-- xors             the rules of _⊕_ for `simp`: an addition in which each number is its own negative
-- digit            a proof about a number below 2 goes by its two cases
-- halves-equal     numbers with equal halves and equal lowest bits are equal
-- positive         what is not zero is positive
-- ⊕-lt             two numbers of k bits give one of k bits
-- ⊕-apart          two numbers that differ do not give 0
-- ⊕-div, ⊕-mod     the bits from k on, and the k low bits, of an xor
-- ⊕-shl, ⊕-top     an xor shifted left; the single bit k joined to k bits below it
use Rattle.std.specs.Prelude.{◌≡◌, refl, ℕ, zero, suc, ◌+◌, ◌*◌, ◌/◌, ◌%◌, ◌^◌, ◌<◌}
use Rattle.std.proofs.Common.{sym, ap, ap₂, ◌∙◌, le_of_suc-le-suc, not-suc-le-zero, one-mul, add-zero, arith, pow_pos}
use Rattle.std.proofs.Math.Arith.{bin_ind}
use Rattle.std.specs.Int.Bits.{bit_xor, xor_zero_r, xor_self, xor_shifted}
use Rattle.std.proofs.lemmas.Nat.{xor_comm, xor_shr, xor_mod, xor_block, xor_lt}
use Rattle.lists.specs.Xor.{◌⊕◌}

-- ---- associativity, digit by digit
pub digit : (P : ℕ → Type 0) → P 0 → P 1 → (n : ℕ) → n < 2 → P n
digit P p q zero h = p
digit P p q (suc zero) h = q
digit P p q (suc (suc n)) h = absurd (not-suc-le-zero (le_of_suc-le-suc (le_of_suc-le-suc h)))

pub halves-equal : (x y : ℕ) → x / 2 ≡ y / 2 → x % 2 ≡ y % 2 → x ≡ y
halves-equal x y h l = omega arith

assoc-digits : (p q r : ℕ) → p < 2 → q < 2 → r < 2 → bit_xor (bit_xor p q) r ≡ bit_xor p (bit_xor q r)
assoc-digits p q r hp hq hr =
    digit (λ (p : ℕ). bit_xor (bit_xor p q) r ≡ bit_xor p (bit_xor q r)) refl
    (digit (λ (q : ℕ). bit_xor (bit_xor 1 q) r ≡ bit_xor 1 (bit_xor q r)) refl
    (digit (λ (r : ℕ). bit_xor (bit_xor 1 1) r ≡ bit_xor 1 (bit_xor 1 r)) refl refl r hr) q hq) p hp

xor_assoc : (a b c : ℕ) → bit_xor (bit_xor a b) c ≡ bit_xor a (bit_xor b c)
xor_assoc =
    bin_ind (λ (n : ℕ). (b c : ℕ) → bit_xor (bit_xor n b) c ≡ bit_xor n (bit_xor b c)) (λ b c. refl)
    (λ n ih b c. halves-equal _ _
    (rw (xor_shr (bit_xor n b) c 1, xor_shr n b 1, xor_shr n (bit_xor b c) 1, xor_shr b c 1) (ih (b / 2) (c / 2)))
    (rw (xor_mod (bit_xor n b) c 1, xor_mod n b 1, xor_mod n (bit_xor b c) 1, xor_mod b c 1)
    (assoc-digits (n % 2) (b % 2) (c % 2) (omega arith) (omega arith) (omega arith))))

pub ⊕-assoc : (a b c : ℕ) → (a ⊕ b) ⊕ c ≡ a ⊕ (b ⊕ c)
unfolding ◌⊕◌
⊕-assoc a b c = xor_assoc a b c

pub ⊕-comm : (a b : ℕ) → a ⊕ b ≡ b ⊕ a
unfolding ◌⊕◌
⊕-comm a b = xor_comm a b

pub ⊕-zero : (a : ℕ) → a ⊕ 0 ≡ a
unfolding ◌⊕◌
⊕-zero a = xor_zero_r a

pub zero-⊕ : (a : ℕ) → 0 ⊕ a ≡ a
unfolding ◌⊕◌
zero-⊕ a = refl

pub ⊕-self : (a : ℕ) → a ⊕ a ≡ 0
unfolding ◌⊕◌
⊕-self a = xor_self a

pub ⊕-left-comm : (a b c : ℕ) → a ⊕ (b ⊕ c) ≡ b ⊕ (a ⊕ c)
⊕-left-comm a b c = sym (⊕-assoc a b c) ∙ ap (λ (x : ℕ). x ⊕ c) (⊕-comm a b) ∙ ⊕-assoc b a c

pub ⊕-self-left : (a b : ℕ) → a ⊕ (a ⊕ b) ≡ b
⊕-self-left a b = sym (⊕-assoc a a b) ∙ ap (λ (x : ℕ). x ⊕ b) (⊕-self a) ∙ zero-⊕ b

pub ruleset xors = (⊕-assoc, ⊕-comm, ⊕-left-comm, ⊕-zero, zero-⊕, ⊕-self, ⊕-self-left)

-- ---- bits
pub ⊕-lt : (k : ℕ) {a b : ℕ} → a < 2 ^ k → b < 2 ^ k → a ⊕ b < 2 ^ k
unfolding ◌⊕◌
⊕-lt k {a} {b} ha hb = xor_lt k a b ha hb

pub positive : (m : ℕ) → (m ≡ 0 → ⊥) → 0 < m
positive m h = omega (arith, h)

pub ⊕-apart : (a b : ℕ) → (a ≡ b → ⊥) → 0 < a ⊕ b
⊕-apart a b n = positive (a ⊕ b) (λ e. n (sym (⊕-zero a) ∙ ap (◌⊕◌ a) (sym e) ∙ ⊕-self-left a b))

pub ⊕-div : (k a b : ℕ) → (a ⊕ b) / 2 ^ k ≡ a / 2 ^ k ⊕ b / 2 ^ k
unfolding ◌⊕◌
⊕-div k a b = xor_shr a b k

pub ⊕-mod : (k a b : ℕ) → (a ⊕ b) % 2 ^ k ≡ a % 2 ^ k ⊕ b % 2 ^ k
unfolding ◌⊕◌
⊕-mod k a b = xor_mod a b k

pub ⊕-shl : (k a b : ℕ) → (a ⊕ b) * 2 ^ k ≡ a * 2 ^ k ⊕ b * 2 ^ k
unfolding ◌⊕◌
⊕-shl k a b =
    sym (add-zero (bit_xor a b * 2 ^ k)) ∙ sym (xor_block k a b 0 0 (pow_pos k) (pow_pos k))
    ∙ ap₂ bit_xor (add-zero (a * 2 ^ k)) (add-zero (b * 2 ^ k))

pub ⊕-top : (k r : ℕ) → r < 2 ^ k → 2 ^ k ⊕ r ≡ 2 ^ k + r
unfolding ◌⊕◌
⊕-top k r h =
    ap (λ (x : ℕ). bit_xor x r) (sym (one-mul (2 ^ k))) ∙ xor_shifted 1 k r h ∙ ap (λ (x : ℕ). x + r) (one-mul (2 ^ k))
