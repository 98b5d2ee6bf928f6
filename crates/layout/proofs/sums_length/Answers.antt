-- There are at most 9 sums.
use Rattle.std.proofs.Common.{ap₂, arith, mul-le-mul, ◌*◌, ◌≡◌}
use Rattle.layout.specs.Layout.{sums_length}
use Rattle.layout.specs.Layout.Bounds.{sums-most, share-most}
use Rattle.layout.proofs.sums_length.Goals as goal
use Rattle.layout.proofs.sums_length.Goals.{After-share_length}

whole : (c : After-share_length) → c.sum_count.result * c.share_length.result ≡ sums_length c.args.p
whole c =
    ap₂ ◌*◌ c.sum_count.ensures c.share_length.ensures

pub overflow_mul-result : goal.overflow_mul-result
overflow_mul-result c = omega (arith, whole (goal.at.overflow_mul-result c).After-share_length, mul-le-mul (sums-most c.args.p c.requires) (share-most c.args.p c.requires))

pub returns : goal.returns
returns c = whole (goal.at.returns c).After-share_length
