-- The rows take at most 1536 bytes.
use Rattle.std.proofs.Common.{ap, arith, ◌*◌, ◌≡◌}
use Rattle.layout.specs.Layout.{rows_length}
use Rattle.layout.specs.Layout.Bounds.{rows-most}
use Rattle.layout.proofs.rows_length.Goals as goal
use Rattle.layout.proofs.rows_length.Goals.{After-axis_length}

whole : (c : After-axis_length) → c.args.p.axes * c.axis_length.result ≡ rows_length c.args.p
whole c =
    ap (◌*◌ c.args.p.axes) c.axis_length.ensures

pub overflow_mul-result : goal.overflow_mul-result
overflow_mul-result c = omega (arith, whole (goal.at.overflow_mul-result c).After-axis_length, rows-most _ c.requires)

pub returns : goal.returns
returns c = whole (goal.at.returns c).After-axis_length
