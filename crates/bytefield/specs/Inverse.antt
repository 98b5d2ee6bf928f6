-- The inverse in GF(256), and 0 of 0. That it is the inverse is in Inverse.Laws.
--
--   squares k a     a² times a⁴ times .. a^(2^k)
--   inverse a       a to the 254, which is 2 + 4 + .. + 128; of any number, the inverse of its low byte
use Rattle.std.specs.Prelude.{ℕ, zero, suc}
use Rattle.bytefield.specs.Product.{◌⊗◌}
pub mod Laws

unfoldable pub squares : ℕ → ℕ → ℕ
squares zero a = 1
squares (suc k) a = (a ⊗ a) ⊗ squares k (a ⊗ a)

unfoldable pub inverse : ℕ → ℕ
inverse a = squares 7 a
