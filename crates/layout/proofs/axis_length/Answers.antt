-- The product fits, since its factors are bounded.
use Rattle.std.proofs.Common.{ap₂, arith, ◌*◌, ◌≡◌}
use Rattle.layout.specs.Layout.{axis_length}
use Rattle.layout.specs.Layout.Bounds.{axis-most}
use Rattle.layout.proofs.axis_length.Goals as goal
use Rattle.layout.proofs.axis_length.Goals.{After-row_length}

whole : (c : After-row_length) → c.side.result * c.row_length.result ≡ axis_length c.args.p
whole c =
    ap₂ ◌*◌ c.side.ensures c.row_length.ensures

pub overflow_mul-result : goal.overflow_mul-result
overflow_mul-result c = omega (arith, whole (goal.at.overflow_mul-result c).After-row_length, axis-most _ c.requires)

pub returns : goal.returns
returns c = whole (goal.at.returns c).After-row_length
