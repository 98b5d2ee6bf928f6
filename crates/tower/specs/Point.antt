-- The points field (document 01: "four bytes b0 b1 b2 b3, standing for b0 + b1·X + (b2 + b3·X)·Z, with X² = X + 20 and
-- Z² = Z + 20·X"). Sums and products are computed on numbers, by the step of `algebra` made twice over ⊕ and ⊗.
--
--   pair_ops            sum and product of b0 + b1·X, where X² = X + 20
--   Quad, point_ops     sum and product of (b0 + b1·X) + (b2 + b3·X)·Z, where Z² = Z + 20·X
--   quad a             the four bytes of a as two pairs
--   four x             and back
--   lone b             the byte b as a point, b 00 00 00
--   four_sum a b        the sum of two points, each a list of four bytes
--   four_times a b      their product
use Rattle.std.specs.Prelude.{List, [], ◌∷◌, ℕ, get_or}
use Rattle.algebra.specs.Operations.{Operations}
use Rattle.algebra.specs.Extension.{ext_ops}
use Rattle.bytefield.specs.Product.{byte_ops}

abbrev pub Quad : Type 0
Quad = (ℕ × ℕ) × (ℕ × ℕ)

-- X² = X + 20
abbrev pub pair_ops : Operations (ℕ × ℕ)
pair_ops = ext_ops byte_ops 0x20

-- Z² = Z + 20·X
abbrev pub point_ops : Operations Quad
point_ops = ext_ops pair_ops (0, 0x20)

abbrev pub quad : List ℕ → Quad
quad a = ((get_or a 0 0, get_or a 1 0), (get_or a 2 0, get_or a 3 0))

abbrev pub four : Quad → List ℕ
four x = x.0.0 ∷ x.0.1 ∷ x.1.0 ∷ x.1.1 ∷ []

abbrev pub lone : ℕ → List ℕ
lone b = b ∷ 0 ∷ 0 ∷ 0 ∷ []

unfoldable pub four_sum : List ℕ → List ℕ → List ℕ
four_sum a b = four (point_ops.add (quad a) (quad b))

unfoldable pub four_times : List ℕ → List ℕ → List ℕ
four_times a b = four (point_ops.mul (quad a) (quad b))
