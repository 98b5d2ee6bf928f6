-- The operations of pairs and points written out with ⊕ and ⊗, so that `simp bytefield` calculates with them.
--
--   plus₂, times₂      pair_ops' sum and product
--   plus₄, times₄      point_ops' sum and product
--   four-path          points with equal entries are equal
use Rattle.std.specs.Prelude.{◌≡◌, refl, List, [], ◌∷◌, ℕ}
use Rattle.lists.specs.Xor.{◌⊕◌}
use Rattle.bytefield.specs.Product.{◌⊗◌}
use Rattle.tower.specs.Point.{point_ops, Quad}

abbrev pub plus₂ : ℕ × ℕ → ℕ × ℕ → ℕ × ℕ
plus₂ x y = (x.0 ⊕ y.0, x.1 ⊕ y.1)

abbrev pub times₂ : ℕ × ℕ → ℕ × ℕ → ℕ × ℕ
times₂ x y = (x.0 ⊗ y.0 ⊕ x.1 ⊗ y.1 ⊗ 0x20, x.0 ⊗ y.1 ⊕ x.1 ⊗ y.0 ⊕ x.1 ⊗ y.1)

abbrev pub plus₄ : Quad → Quad → Quad
plus₄ x y = (plus₂ x.0 y.0, plus₂ x.1 y.1)

abbrev pub times₄ : Quad → Quad → Quad
times₄ x y = (
  plus₂ (times₂ x.0 y.0) (times₂ (times₂ x.1 y.1) (0, 0x20)),
  plus₂ (plus₂ (times₂ x.0 y.1) (times₂ x.1 y.0)) (times₂ x.1 y.1),
)

same-product : (x y : Quad) → point_ops.mul x y ≡ times₄ x y
same-product x y = refl

pub four-path : {w w' x x' y y' z z' : ℕ} → w ≡ w' → x ≡ x' → y ≡ y' → z ≡ z' → ◌≡◌ {A = List ℕ} (w ∷ x ∷ y ∷ z ∷ []) (w' ∷ x' ∷ y' ∷ z' ∷ [])
four-path p q r s = λ i. p i ∷ q i ∷ r i ∷ s i ∷ []
