-- Xor is associative, and a shift goes through it.
use mathlib.Core.Path.{refl, sym, subst, ◌≡◌, ◌∙◌}
use Prim.Native.Nat.{ℕ, zero, suc, ◌+◌, ◌*◌, ◌/◌, ◌%◌, ◌^◌, ◌<◌}
use native.Mathlib.Nat.{add-zero}
use native.Mathlib.Omega.{arith}
use lib.Arith.{bin_ind}
use lib.Bits.{bit_xor, differ, xor_step, xor_shr, xor_mod, xor_block}
use lib.Pow.{pow_pos}

digit : (x y z : ℕ) → x < 2 → y < 2 → z < 2 → differ (bit_xor x y) z ≡ differ x (bit_xor y z)
digit zero y z hx hy hz = subst (λ (v : ℕ). differ y z ≡ v) (one-digit y z hy hz) refl
  where
    one-digit : (y z : ℕ) → y < 2 → z < 2 → differ y z ≡ bit_xor y z
    one-digit zero z hy hz = refl
    one-digit (suc zero) zero hy hz = refl
    one-digit (suc zero) (suc zero) hy hz = refl
    one-digit (suc zero) (suc (suc z)) hy hz = absurd (omega arith)
    one-digit (suc (suc y)) z hy hz = absurd (omega arith)
digit (suc zero) zero zero hx hy hz = refl
digit (suc zero) zero (suc zero) hx hy hz = refl
digit (suc zero) (suc zero) zero hx hy hz = refl
digit (suc zero) (suc zero) (suc zero) hx hy hz = refl
digit (suc zero) zero (suc (suc z)) hx hy hz = absurd (omega arith)
digit (suc zero) (suc zero) (suc (suc z)) hx hy hz = absurd (omega arith)
digit (suc zero) (suc (suc y)) z hx hy hz = absurd (omega arith)
digit (suc (suc x)) y z hx hy hz = absurd (omega arith)

pub xor_assoc : (a b c : ℕ) → bit_xor (bit_xor a b) c ≡ bit_xor a (bit_xor b c)
xor_assoc a = bin_ind (λ (n : ℕ). (b c : ℕ) → bit_xor (bit_xor n b) c ≡ bit_xor n (bit_xor b c)) (λ b c. refl)
    (λ n ih b c.
    xor_step (bit_xor n b) c ∙ (λ i. bit_xor (xor_shr n b 1 i) (c / 2) * 2 + differ (xor_mod n b 1 i) (c % 2))
    ∙ (λ i. ih (b / 2) (c / 2) i * 2 + digit (n % 2) (b % 2) (c % 2) (omega arith) (omega arith) (omega arith) i)
    ∙ (λ i. bit_xor (n / 2) (sym (xor_shr b c 1) i) * 2 + differ (n % 2) (sym (xor_mod b c 1) i)) ∙ sym (xor_step n (bit_xor b c)))
    a

pub xor-shl : (a b k : ℕ) → bit_xor a b * 2 ^ k ≡ bit_xor (a * 2 ^ k) (b * 2 ^ k)
xor-shl a b k = sym
    ((λ i. bit_xor (sym (add-zero (a * 2 ^ k)) i) (sym (add-zero (b * 2 ^ k)) i)) ∙ xor_block k a b 0 0 (pow_pos k) (pow_pos k)
    ∙ add-zero (bit_xor a b * 2 ^ k))
