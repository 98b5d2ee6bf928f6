-- A product of points as the code computes it.
--
--   byte-product       the product of a byte and a point by four products of bytes
use Rattle.std.specs.Prelude.{◌≡◌, List, [], ◌∷◌, ℕ, get_or}
use Rattle.std.proofs.Common.{ap, ◌∙◌}
use Rattle.algebra.specs.Extension.Laws.{pair}
use Rattle.bytefield.specs.Product.{◌⊗◌}
use Rattle.bytefield.specs.Product.Laws.{bytefield}
use Rattle.tower.specs.Point.{Quad, quad, four, lone, four_times}
use Rattle.tower.proofs.Point.Written.{times₄, four-path}

byte-times : (b : ℕ) (x : Quad) → ((b ⊗ x.0.0, b ⊗ x.0.1), (b ⊗ x.1.0, b ⊗ x.1.1)) ≡ times₄ ((b, 0), (0, 0)) x
byte-times b x = pair (pair (simp bytefield) (simp bytefield)) (pair (simp bytefield) (simp bytefield))

pub byte-product : (b : ℕ) (a : List ℕ) (w x y z : ℕ) → w ≡ b ⊗ get_or a 0 0 → x ≡ b ⊗ get_or a 1 0 → y ≡ b ⊗ get_or a 2 0 → z ≡ b ⊗ get_or a 3 0
    → w ∷ x ∷ y ∷ z ∷ [] ≡ four_times (lone b) a
unfolding four_times
byte-product b a w x y z ew ex ey ez = four-path ew ex ey ez ∙ ap four (byte-times b (quad a))
