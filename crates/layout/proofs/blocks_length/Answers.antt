-- There are at most 9 sums.
use Rattle.std.proofs.Common.{ap₂, arith, ◌*◌, ◌≡◌}
use Rattle.layout.specs.Layout.{blocks_length}
use Rattle.layout.specs.Layout.Bounds.{blocks-most}
use Rattle.layout.proofs.blocks_length.Goals as goal
use Rattle.layout.proofs.blocks_length.Goals.{After-row_length}

whole : (c : After-row_length) → c.sum_count.result * c.row_length.result ≡ blocks_length c.args.p
whole c =
    ap₂ ◌*◌ c.sum_count.ensures c.row_length.ensures

pub overflow_mul-result : goal.overflow_mul-result
overflow_mul-result c = omega (arith, whole (goal.at.overflow_mul-result c).After-row_length, blocks-most c.args.p c.requires)

pub returns : goal.returns
returns c = whole (goal.at.returns c).After-row_length
