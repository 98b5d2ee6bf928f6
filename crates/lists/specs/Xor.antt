-- Exclusive or of numbers: the sum of the byte field (document 01, Fields: "Addition is xor").
--
-- _⊕_              exclusive or of two numbers, as an operator that stays shut
use Rattle.std.specs.Prelude.{ℕ}
use Rattle.std.specs.Int.Bits.{bit_xor}
pub mod Laws

-- ---- the operator and its rules
infixl 60 ◌⊕◌
unfoldable pub ◌⊕◌ : ℕ → ℕ → ℕ
a ⊕ b = bit_xor a b
