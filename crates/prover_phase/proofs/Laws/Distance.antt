-- How far two bytes lie apart.
--
-- ones k n          how many of the k low bits of n are set
-- distance a b      in how many of their eight bits the bytes a and b differ
-- clear a b         a and b are one byte, or differ in at least four bits
use Rattle.std.specs.Prelude.{Bool, ◌||◌, ℕ, zero, suc, ◌+◌, ◌/◌, ◌%◌, eqb, leb}
use Rattle.lists.specs.Xor.{◌⊕◌}
pub mod Laws

unfoldable pub ones : ℕ → ℕ → ℕ
ones zero n = 0
ones (suc k) n = n % 2 + ones k (n / 2)

unfoldable pub distance : ℕ → ℕ → ℕ
distance a b = ones 8 (a ⊕ b)

unfoldable pub clear : ℕ → ℕ → Bool
clear a b = eqb a b || leb 4 (distance a b)
