-- Laws of what specs/Field.antt defines.
--
--   point-sum, -times            sums and products go over, whatever the numbers
--   point-lone, lone_field        a byte as a point, and that this is a homomorphism of fields
--   bytes_of-point, point-bytes_of from four bytes to a point and back
use Rattle.std.specs.Prelude.{◌≡◌, refl, List, ℕ}
use Rattle.std.proofs.Common.{ap, ◌∙◌}
use Rattle.algebra.specs.Operations.{Homomorphism}
use Rattle.algebra.specs.Ring.{ops}
use Rattle.algebra.specs.Extension.{ext_map}
use Rattle.algebra.specs.Extension.Laws.{pair, embed, ext-homomorphism}
use Rattle.bytefield.specs.Product.{byte_ops}
use Rattle.bytefield.specs.Byte.{Byte, byte, byte_ring}
use Rattle.bytefield.specs.Byte.Laws.{byte-zero, byte-homomorphism, byte-val, val-byte}
use Rattle.tower.specs.Point.{pair_ops, point_ops, Quad, quad, four, lone, four_sum, four_times}
use Rattle.tower.proofs.Point.Laws.{Bytes}
use Rattle.tower.proofs.Point.Written.{four-path}
use Rattle.tower.specs.Field.{Point, bytes_of, constant_z, lone_of, pair_field, point, point_field, point_of}

pub point-homomorphism : Homomorphism point_ops (ops point_field.base) point_of
point-homomorphism =
    ext-homomorphism pair_ops (ops pair_field.base) (ext_map byte) (0, 0x20)
    (ext-homomorphism byte_ops (ops byte_ring) byte 0x20 byte-homomorphism)

pub point-sum : (a b : List ℕ) → point (four_sum a b) ≡ point_field.base.add (point a) (point b)
unfolding point four_sum
point-sum a b = point-homomorphism.add (quad a) (quad b)

pub point-times : (a b : List ℕ) → point (four_times a b) ≡ point_field.base.mul (point a) (point b)
unfolding point four_times
point-times a b = point-homomorphism.mul (quad a) (quad b)

-- ---- and back
pub point-bytes_of : (x : Point) → point (bytes_of x) ≡ x
unfolding point bytes_of
point-bytes_of x = pair (pair (byte-val x.0.0) (byte-val x.0.1)) (pair (byte-val x.1.0) (byte-val x.1.1))

pub bytes_of-point : (x : Quad) → Bytes x → bytes_of (point (four x)) ≡ four x
unfolding point bytes_of
bytes_of-point x h =
    four-path (val-byte x.0.0 h.0) (val-byte x.0.1 h.1) (val-byte x.1.0 h.2) (val-byte x.1.1 h.3)

pub point-lone : (b : ℕ) → point (lone b) ≡ lone_of (byte b)
unfolding point
point-lone b = pair (pair refl byte-zero) (pair byte-zero byte-zero)

inner : Homomorphism (ops byte_ring) (ops pair_field.base) (λ b. (b, byte_ring.zero))
inner = embed byte_ring (byte 0x20)

outer : Homomorphism (ops pair_field.base) (ops point_field.base) (λ x. (x, pair_field.base.zero))
outer = embed pair_field.base constant_z

pub lone_field : Homomorphism (ops byte_ring) (ops point_field.base) lone_of
lone_field = record {
  zero = refl;
  one = refl;
  add = λ a b. ap embed_z (inner.add a b) ∙ outer.add (a, byte_ring.zero) (b, byte_ring.zero);
  mul = λ a b. ap embed_z (inner.mul a b) ∙ outer.mul (a, byte_ring.zero) (b, byte_ring.zero);
}
  where
    embed_z : Byte × Byte → Point
    embed_z x = (x, pair_field.base.zero)
