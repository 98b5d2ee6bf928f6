-- The products fit, since their factors are bounded.
use Rattle.std.proofs.Common.{ap, ap₂, arith, ℕ, ◌*◌, ◌≡◌}
use Rattle.layout.specs.Layout.{work_length}
use Rattle.layout.specs.Layout.Bounds.{parties-most, work-most}
use Rattle.layout.proofs.work_length.Goals as goal
use Rattle.layout.proofs.work_length.Goals.{After-share_length}

whole : (c : After-share_length) → c.side.result * c.args.p.axes * c.share_length.result ≡ work_length c.args.p
unfolding work_length
whole c =
    ap₂ (λ (n k : ℕ). n * c.args.p.axes * k) c.side.ensures c.share_length.ensures

pub overflow_mul-result : goal.overflow_mul-result
overflow_mul-result c =
    omega (arith, parties-most _ c.requires, ap (λ (n : ℕ). n * c.args.p.axes) c.side.ensures)

pub overflow_mul-result-2 : goal.overflow_mul-result-2
unfolding work_length
overflow_mul-result-2 c = omega (arith, whole (goal.at.overflow_mul-result-2 c).After-share_length, work-most _ c.requires)

pub returns : goal.returns
returns c = whole (goal.at.returns c).After-share_length
