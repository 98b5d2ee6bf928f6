-- Points as a field of characteristic 2, and the way from lists of four bytes to it.
--
--   Point                        b0 + b1·X + (b2 + b3·X)·Z with parts in the field of bytes
--   irreducible-test             u² + u is never 20, computed over all bytes: it serves both steps
--   pair_field, point_field        the fields with X² = X + 20 and Z² = Z + 20·X
--   point a                      the point that a list of four bytes stands for
--   bytes_of x                    the four bytes of a point
use Rattle.std.proofs.Common.{sym, ap, subst, T_not}
use Rattle.std.specs.Prelude.{Bool, not, List, [], ◌∷◌, ℕ, T, eqb}
use Rattle.algebra.specs.Field.{Field2}
use Rattle.algebra.specs.Extension.{ext_map, Irreducible}
use Rattle.algebra.specs.Extension.Laws.{ext_field, tower}
use Rattle.lists.specs.Xor.{◌⊕◌}
use Rattle.lists.specs.Computed.{all, below}
use Rattle.bytefield.specs.Product.{reduction, xtime, times_bits, ◌⊗◌}
use Rattle.bytefield.specs.Byte.{Byte, byte, byte_ring}
use Rattle.bytefield.proofs.Laws.Field.{byte_field}
use Rattle.bytefield.specs.Byte.Laws.{byte-zero}
use Rattle.tower.specs.Point.{Quad, quad}

-- ---- u² + u is never 20
differs_at : ℕ → Bool
differs_at u = not (eqb (u ⊗ u ⊕ u) 0x20)

irreducible-test : T (all 256 differs_at)
unfolding differs_at ◌⊗◌ times_bits xtime reduction ◌⊕◌
irreducible-test = tt

pub irreducible : Irreducible byte_ring (byte 0x20)
unfolding differs_at byte_ring byte
irreducible u e =
    T_not (eqb (u.0 ⊗ u.0 ⊕ u.0) 0x20) (below 256 differs_at irreducible-test u.0 u.1)
    (subst (λ (x : ℕ). T (eqb x 0x20)) (sym (ap (λ (x : Byte). x.0) e)) tt)

-- ---- the two steps
abbrev pub pair_field : Field2 (Byte × Byte)
pair_field = ext_field byte_field (byte 0x20) irreducible

-- 20·X, as point_ops has it
abbrev pub constant_z : Byte × Byte
constant_z = ext_map byte (0, 0x20)

pub irreducible_z : Irreducible pair_field.base constant_z
irreducible_z = subst (λ (z : Byte). Irreducible pair_field.base (z, byte 0x20)) (sym byte-zero) (tower byte_field (byte 0x20) irreducible)

abbrev pub Point : Type 0
Point = (Byte × Byte) × (Byte × Byte)

abbrev pub point_field : Field2 Point
point_field = ext_field pair_field constant_z irreducible_z

-- ---- from four numbers to a point
abbrev pub point_of : Quad → Point
point_of = ext_map (ext_map byte)

unfoldable pub point : List ℕ → Point
point a = point_of (quad a)

unfoldable pub bytes_of : Point → List ℕ
bytes_of x = x.0.0.0 ∷ x.0.1.0 ∷ x.1.0.0 ∷ x.1.1.0 ∷ []

-- ---- a byte as a point
abbrev pub lone_of : Byte → Point
lone_of b = ((b, byte_ring.zero), (byte_ring.zero, byte_ring.zero))
