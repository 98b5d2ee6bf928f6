-- There are at most 9 sums.
use Rattle.std.proofs.Common.{ap, arith, ℕ, ◌*◌, ◌≡◌}
use Rattle.layout.specs.Layout.{others}
use Rattle.layout.specs.Layout.Bounds.{sums-most}
use Rattle.layout.proofs.sum_count.Goals as goal
use Rattle.layout.proofs.sum_count.Goals.{After-others}

whole : (c : After-others) → c.others.result * c.args.p.axes ≡ others c.args.p * c.args.p.axes
whole c =
    ap (λ (n : ℕ). n * c.args.p.axes) c.others.ensures

pub overflow_mul-result : goal.overflow_mul-result
overflow_mul-result c = omega (arith, sums-most _ c.requires, whole (goal.at.overflow_mul-result c).After-others)

pub overflow_add-result : goal.overflow_add-result
overflow_add-result c = omega (arith, sums-most _ c.requires, whole (goal.at.overflow_add-result c).After-others)

pub returns : goal.returns
returns c = omega (arith, whole (goal.at.returns c).After-others)
