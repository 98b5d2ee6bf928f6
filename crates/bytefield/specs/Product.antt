-- The product of GF(256): bytes modulo z⁸ + z⁴ + z³ + z + 1 (FIPS 197, section 4.2). Bit i of a byte is the coefficient of zⁱ.
--
--   reduction      1b: what z⁸ is, z⁴ + z³ + z + 1
--   xtime b        z times b: shifted left, and where the highest bit falls out, 1b is added
--   times_bits      the product by the lowest k bits of a: a = a₀ + z·a' gives a·b = a₀·b + z·(a'·b)
--   a ⊗ b          the product of two bytes; of any numbers, the product of their low bytes
--   byte_ops        numbers with ⊕ and ⊗, as operations for polynomials
use Rattle.std.specs.Prelude.{ℕ, zero, suc, ◌*◌, ◌/◌, ◌%◌}
use Rattle.algebra.specs.Operations.{Operations}
use Rattle.lists.specs.Xor.{◌⊕◌}
pub mod Laws
pub mod Example

unfoldable pub reduction : ℕ
reduction = 0x1b

unfoldable pub xtime : ℕ → ℕ
xtime b = b * 2 % 256 ⊕ b / 128 % 2 * reduction

unfoldable pub times_bits : ℕ → ℕ → ℕ → ℕ
times_bits zero a b = 0
times_bits (suc k) a b = a % 2 * b ⊕ xtime (times_bits k (a / 2) b)

infixl 70 ◌⊗◌
unfoldable pub ◌⊗◌ : ℕ → ℕ → ℕ
a ⊗ b = times_bits 8 (a % 256) (b % 256)

abbrev pub byte_ops : Operations ℕ
byte_ops = record { zero = 0; one = 1; add = ◌⊕◌; mul = ◌⊗◌ }
