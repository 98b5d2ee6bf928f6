-- There are two parties or more.
use Rattle.std.proofs.Common.{arith}
use Rattle.layout.specs.Layout.Laws.{side-others}
use Rattle.layout.proofs.others.Goals as goal

pub overflow_sub-result : goal.overflow_sub-result
overflow_sub-result c = omega (arith, side-others c.args.p, c.side.ensures)
