-- The first axis on which two leaves differ.
--
-- first_axis p u u'          the least axis, from 0, on which the leaves u and u' have different digits
-- first-inside              there is one, where the leaves differ
-- first-apart, first-equal  the leaves differ on it, and on none before it
-- first-trailing            at side 2 it is 'the lowest set bit of their xor'
use Rattle.std.specs.Prelude.{◌≡◌, refl, not, ◌⊎◌, ◌↔◌, ℕ, zero, suc, ◌*◌, ◌/◌, ◌%◌, ◌^◌, ◌<◌, ◌≤◌, eqb}
use Rattle.std.proofs.Common.{sym, ap, ◌∙◌, inl, inr, ⊎_elim, div-one, pow-suc, lt_of_lt_of_le, one-add, arith, eqb-true, pow_mono, shr-shr}
use Rattle.std.proofs.Math.Nat.{zero-div}
use Rattle.std.proofs.Math.Decide.{dec_lt}
use Rattle.std.proofs.lemmas.Bool.{eqb-false, not-true, not-false}
use Rattle.std.specs.Int.Bits.{bit_xor}
use Rattle.std.proofs.lemmas.Nat.{xor_shr, xor_mod, xor_lt}
use Rattle.std.specs.Int.Count.{count_trailing_zeros, under}
use Rattle.parameters.specs.declared.Parameters.{Parameters}
use Rattle.layout.specs.Layout.{leaves, digit}
use Rattle.layout.specs.Layout.Laws.{digit-bit, leaves-is, digits-inj}
use Rattle.exchange.specs.Sequences.{least}
use Rattle.exchange.proofs.Sequences.Laws.{Least, least-is}

abbrev pub first_axis : Parameters → ℕ → ℕ → ℕ
first_axis p u u' = least (λ j. not (eqb (digit p j u) (digit p j u'))) p.axes

module _ (p : Parameters) (u u' : ℕ) where
  first-least : Least (λ j. not (eqb (digit p j u) (digit p j u'))) p.axes (first_axis p u u')
  first-least = least-is (λ j. not (eqb (digit p j u) (digit p j u'))) p.axes

  pub first-equal : (j : ℕ) → j < first_axis p u u' → digit p j u ≡ digit p j u'
  first-equal j l = eqb-true _ _ (not-false _ (first-least.before j l))

  module _ (inside : u < leaves p) (inside' : u' < leaves p) (other : u ≡ u' → ⊥) where
    pub first-inside : first_axis p u u' < p.axes
    first-inside = go (dec_lt (first_axis p u u') p.axes)
      where
        go : Dec (first_axis p u u' < p.axes) → first_axis p u u' < p.axes
        go (yes l) = l
        go (no l) = absurd (other (digits-inj p u u' inside inside' (λ j h. first-equal j (omega arith))))

    pub first-apart : digit p (first_axis p u u') u ≡ digit p (first_axis p u u') u' → ⊥
    first-apart = eqb-false _ _ (not-true _ (first-least.passes first-inside))

-- ---- bits

bit : ℕ → ℕ → ℕ
bit n j = n / 2 ^ j % 2

bit-suc : (n j : ℕ) → bit n (suc j) ≡ bit (n / 2) j
unfolding bit
bit-suc n j = ap (λ (x : ℕ). x % 2) (ap (λ (x : ℕ). n / 2 ^ x) (sym (one-add j)) ∙ sym (shr-shr n 1 j))

bit-zero : (n : ℕ) → bit n 0 ≡ n % 2
unfolding bit
bit-zero n = ap (λ (x : ℕ). x % 2) (div-one n)

bit-lt : (n j : ℕ) → bit n j < 2
unfolding bit
bit-lt n j = omega arith

bit-of-zero : (j : ℕ) → bit 0 j ≡ 0
unfolding bit
bit-of-zero j = ap (λ (n : ℕ). n % 2) (zero-div (2 ^ j))

bit-xor : (a b j : ℕ) → bit (bit_xor a b) j ≡ bit_xor (bit a j) (bit b j)
unfolding bit
bit-xor a b j = ap (λ (x : ℕ). x % 2) (xor_shr a b j) ∙ xor_mod (a / 2 ^ j) (b / 2 ^ j) 1

-- two bits are equal exactly where their xor is 0
bits-xor : (a b : ℕ) → a < 2 → b < 2 → (bit_xor a b ≡ 0) ↔ (a ≡ b)
bits-xor zero zero h k = (λ e. refl, λ e. refl)
bits-xor zero (suc zero) h k = (λ e. absurd (omega arith), λ e. absurd (omega arith))
bits-xor zero (suc (suc b)) h k = absurd (omega arith)
bits-xor (suc zero) zero h k = (λ e. absurd (omega arith), λ e. absurd (omega arith))
bits-xor (suc zero) (suc zero) h k = (λ e. refl, λ e. refl)
bits-xor (suc zero) (suc (suc b)) h k = absurd (omega arith)
bits-xor (suc (suc a)) b h k = absurd (omega arith)

-- ---- trailing zeros

parity : (n : ℕ) → (n % 2 ≡ 0) ⊎ (n % 2 ≡ 1)
parity n = go (n % 2) (omega arith)
  where
    go : (d : ℕ) → d < 2 → (d ≡ 0) ⊎ (d ≡ 1)
    go zero h = inl refl
    go (suc zero) h = inr refl
    go (suc (suc d)) h = absurd (omega arith)

trailing_even : (k n : ℕ) → n % 2 ≡ 0 → count_trailing_zeros (suc k) n ≡ suc (count_trailing_zeros k (n / 2))
unfolding count_trailing_zeros
trailing_even k n e = ap (λ (d : ℕ). under d (count_trailing_zeros k (n / 2))) e

trailing_odd : (k n : ℕ) → n % 2 ≡ 1 → count_trailing_zeros (suc k) n ≡ 0
unfolding count_trailing_zeros
trailing_odd k n e = ap (λ (d : ℕ). under d (count_trailing_zeros k (n / 2))) e

trailing-none : (n j : ℕ) → j < count_trailing_zeros zero n → ⊥
unfolding count_trailing_zeros
trailing-none n j h = omega arith

-- the bits below the trailing zeros' number are 0
trailing_below : (k n j : ℕ) → j < count_trailing_zeros k n → bit n j ≡ 0
trailing_below zero n j h = absurd (trailing-none n j h)
trailing_below (suc k) n zero h = ⊎_elim (λ e. bit-zero n ∙ e) (λ e. absurd (omega (arith, trailing_odd k n e))) (parity n)
trailing_below (suc k) n (suc j) h =
    ⊎_elim (λ e. bit-suc n j ∙ trailing_below k (n / 2) j (omega (arith, trailing_even k n e)))
    (λ e. absurd (omega (arith, trailing_odd k n e))) (parity n)

-- the bit at it is 1, where the number is not 0
trailing_at : (k n : ℕ) → n < 2 ^ k → (n ≡ 0 → ⊥) → bit n (count_trailing_zeros k n) ≡ 1
trailing_at zero n h z = absurd (z (omega arith))
trailing_at (suc k) n h z =
    let h' : n < 2 ^ k * 2 = rw pow-suc at h in
    ⊎_elim
    (λ e. rw (trailing_even k n e, bit-suc n (count_trailing_zeros k (n / 2))) (trailing_at k (n / 2) (omega arith) (λ f. z (omega arith))))
    (λ e. rw (trailing_odd k n e, bit-zero n) e)
    (parity n)

-- ---- at side 2

module _ (p : Parameters) (u u' : ℕ) (inside : u < leaves p) (inside' : u' < leaves p) (other : u ≡ u' → ⊥) where
  digit-is : (j i : ℕ) → digit p j i ≡ bit i j
  unfolding bit
  digit-is j i = digit-bit p j i

  xor-of-equal : (j : ℕ) → digit p j u ≡ digit p j u' → bit (bit_xor u u') j ≡ 0
  xor-of-equal j q = bit-xor u u' j ∙ (bits-xor (bit u j) (bit u' j) (bit-lt u j) (bit-lt u' j)).1 (sym (digit-is j u) ∙ q ∙ digit-is j u')

  equal-of-xor : (j : ℕ) → bit (bit_xor u u') j ≡ 0 → digit p j u ≡ digit p j u'
  equal-of-xor j q =
      digit-is j u ∙ (bits-xor (bit u j) (bit u' j) (bit-lt u j) (bit-lt u' j)).0 (sym (bit-xor u u' j) ∙ q) ∙ sym (digit-is j u')

  xor-some : bit_xor u u' ≡ 0 → ⊥
  xor-some q = first-apart p u u' inside inside' other (equal-of-xor (first_axis p u u') (ap (λ (n : ℕ). bit n (first_axis p u u')) q ∙ bit-of-zero (first_axis p u u')))

  -- k is the width in bits of the type in which the code counts
  pub first-trailing : (k : ℕ) → p.axes ≤ k → first_axis p u u' ≡ count_trailing_zeros k (bit_xor u u')
  first-trailing k h =
      let below : first_axis p u u' < count_trailing_zeros k (bit_xor u u') → ⊥ = λ l. first-apart p u u' inside inside' other (equal-of-xor _ (trailing_below k _ _ l)) in
      let above : count_trailing_zeros k (bit_xor u u') < first_axis p u u' → ⊥ = λ l. omega (arith, top, xor-of-equal _ (first-equal p u u' _ l)) in omega arith
    where
      fits : (i : ℕ) → i < leaves p → i < 2 ^ k
      fits i l = lt_of_lt_of_le (rw leaves-is at l) (pow_mono h)

      top : bit (bit_xor u u') (count_trailing_zeros k (bit_xor u u')) ≡ 1
      top = trailing_at k (bit_xor u u') (xor_lt k u u' (fits u inside) (fits u' inside')) xor-some
