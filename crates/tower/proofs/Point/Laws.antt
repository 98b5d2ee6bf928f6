-- Products of points, of any four numbers.
--
--   Bytes x              the four numbers are bytes
--   bytes-times          a product is four bytes, whatever the factors
use Rattle.std.specs.Prelude.{ℕ, ◌<◌}
use Rattle.lists.specs.Xor.{◌⊕◌}
use Rattle.lists.specs.Xor.Laws.{⊕-lt}
use Rattle.bytefield.specs.Product.{◌⊗◌}
use Rattle.bytefield.specs.Product.Laws.{⊗-lt}
use Rattle.tower.specs.Point.{point_ops, Quad}

abbrev pub Bytes : Quad → Type 0
Bytes x = (x.0.0 < 256) × (x.0.1 < 256) × (x.1.0 < 256) × (x.1.1 < 256)

three-lt : (a b c d e f : ℕ) → a ⊗ b ⊕ c ⊗ d ⊕ e ⊗ f < 256
three-lt a b c d e f = ⊕-lt 8 (⊕-lt 8 (⊗-lt a b) (⊗-lt c d)) (⊗-lt e f)

pub bytes-times : (x y : Quad) → Bytes (point_ops.mul x y)
bytes-times x y = (
  ⊕-lt 8 (⊕-lt 8 (⊗-lt _ _) (⊗-lt _ _)) (⊕-lt 8 (⊗-lt _ _) (⊗-lt _ _)),
  ⊕-lt 8 (three-lt _ _ _ _ _ _) (three-lt _ _ _ _ _ _),
  ⊕-lt 8 (⊕-lt 8 (⊕-lt 8 (⊗-lt _ _) (⊗-lt _ _)) (⊕-lt 8 (⊗-lt _ _) (⊗-lt _ _))) (⊕-lt 8 (⊗-lt _ _) (⊗-lt _ _)),
  ⊕-lt 8 (⊕-lt 8 (three-lt _ _ _ _ _ _) (three-lt _ _ _ _ _ _)) (three-lt _ _ _ _ _ _),
)
