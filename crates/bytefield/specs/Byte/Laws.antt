-- Laws of what specs/Byte.antt defines.
--
--   byte-add, -mul, -inverse    sums, products and inverses of numbers go over, whatever the numbers
--   byte-homomorphism           the same as a homomorphism, for polynomials
--   byte-val, val-byte          from a byte to a number and back
use Rattle.std.specs.Prelude.{◌≡◌, refl, ℕ, ◌<◌}
use Rattle.std.proofs.Common.{sym, ◌∙◌, mod-eq_of_lt}
use Rattle.algebra.specs.Operations.{Homomorphism}
use Rattle.algebra.specs.Ring.{ops}
use Rattle.lists.specs.Xor.{◌⊕◌}
use Rattle.lists.specs.Xor.Laws.{⊕-mod}
use Rattle.bytefield.specs.Product.{◌⊗◌, byte_ops}
use Rattle.bytefield.specs.Product.Laws.{⊗-lt, ⊗-low}
use Rattle.bytefield.specs.Inverse.{inverse}
use Rattle.bytefield.specs.Inverse.Laws.{inverse-lt, inverse-low}
use Rattle.bytefield.specs.Byte.{Byte, byte, byte-path, byte_inverse, byte_ring}

-- ---- from numbers to the field
pub byte-zero : byte 0 ≡ byte_ring.zero
unfolding byte byte_ring
byte-zero = byte-path refl

pub byte_one : byte 1 ≡ byte_ring.one
unfolding byte byte_ring
byte_one = byte-path refl

pub byte-add : (a b : ℕ) → byte (a ⊕ b) ≡ byte_ring.add (byte a) (byte b)
unfolding byte byte_ring
byte-add a b = byte-path (⊕-mod 8 a b)

pub byte-mul : (a b : ℕ) → byte (a ⊗ b) ≡ byte_ring.mul (byte a) (byte b)
unfolding byte byte_ring
byte-mul a b = byte-path (mod-eq_of_lt (⊗-lt a b) ∙ ⊗-low a b)

pub byte-inverse : (a : ℕ) → byte (inverse a) ≡ byte_inverse (byte a)
unfolding byte byte_inverse
byte-inverse a = byte-path (mod-eq_of_lt (inverse-lt a) ∙ sym (inverse-low a))

pub byte-homomorphism : Homomorphism byte_ops (ops byte_ring) byte
byte-homomorphism = record { zero = byte-zero; one = byte_one; add = byte-add; mul = byte-mul }

pub byte-val : (x : Byte) → byte x.0 ≡ x
unfolding byte
byte-val x = byte-path (mod-eq_of_lt x.1)

pub val-byte : (a : ℕ) → a < 256 → (byte a).0 ≡ a
unfolding byte
val-byte a h = mod-eq_of_lt h
