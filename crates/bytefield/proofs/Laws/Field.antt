-- Bytes are a field.
--
--   byte-mul-inverse, byte_field   a byte other than 0 has its inverse; the field of bytes, with ⊕, ⊗ and inverse
use Rattle.std.specs.Prelude.{◌≡◌}
use Rattle.algebra.specs.Field.{Field2}
use Rattle.lists.specs.Xor.Laws.{positive}
use Rattle.bytefield.proofs.Laws.Inverse.{⊗-inverse}
use Rattle.bytefield.specs.Byte.{Byte, byte-path, byte_ring, byte_inverse, byte-one≢zero, byte-zero?}

pub byte-mul-inverse : (a : Byte) → (a ≡ byte_ring.zero → ⊥) → byte_ring.mul a (byte_inverse a) ≡ byte_ring.one
unfolding byte_ring byte_inverse
byte-mul-inverse a n = byte-path (⊗-inverse a.0 (positive a.0 (λ z. n (byte-path z))) a.1)

abbrev pub byte_field : Field2 Byte
byte_field = record {
  base = byte_ring;
  one≢zero = λ e. byte-one≢zero e;
  zero? = byte-zero?;
  inv = byte_inverse;
  mul-inv = byte-mul-inverse;
}
