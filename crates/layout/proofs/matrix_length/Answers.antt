-- A matrix has at most 16,256 bytes, so the product fits.
use Rattle.std.proofs.Common.{ap, arith, ℕ, ◌*◌, ◌≡◌}
use Rattle.layout.specs.Layout.{matrix_length}
use Rattle.layout.specs.Layout.Bounds.{matrix-most}
use Rattle.layout.proofs.matrix_length.Goals as goal
use Rattle.layout.proofs.matrix_length.Goals.{After-y_length}

whole : (c : After-y_length) → c.y_length.result * c.args.p.k ≡ matrix_length c.args.p
whole c =
    ap (λ (n : ℕ). n * c.args.p.k) c.y_length.ensures

pub overflow_mul-result : goal.overflow_mul-result
overflow_mul-result c = omega (arith, whole (goal.at.overflow_mul-result c).After-y_length, matrix-most _ c.requires)

pub returns : goal.returns
returns c = whole (goal.at.returns c).After-y_length
