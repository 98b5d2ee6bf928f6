-- The laws of the inverse.
--
--   inverse-zero, -lt, -low     0 has 0; it is a byte; only the low byte counts
use Rattle.std.specs.Prelude.{◌≡◌, ℕ, ◌%◌, ◌<◌}
use Rattle.std.proofs.Common.{sym, ap, ◌∙◌}
use Rattle.bytefield.specs.Product.{◌⊗◌}
use Rattle.bytefield.specs.Product.Laws.{⊗-lt, ⊗-low, zero-⊗}
use Rattle.bytefield.specs.Inverse.{squares, inverse}

pub inverse-zero : inverse 0 ≡ 0
unfolding inverse squares
inverse-zero = ap (λ (x : ℕ). x ⊗ squares 6 (0 ⊗ 0)) (zero-⊗ 0) ∙ zero-⊗ (squares 6 (0 ⊗ 0))

pub inverse-lt : (a : ℕ) → inverse a < 256
unfolding inverse squares
inverse-lt a = ⊗-lt (a ⊗ a) (squares 6 (a ⊗ a))

pub inverse-low : (a : ℕ) → inverse (a % 256) ≡ inverse a
unfolding inverse squares
inverse-low a = ap (λ (x : ℕ). x ⊗ squares 6 x) (sym (⊗-low a a))
