-- The definition; the sums with the constants are some of all.
use Rattle.std.proofs.Common.{arith}
use Rattle.axes.proofs.Laws.Evaluated.{few-first}
use Rattle.axes.proofs.total.batch.Goals as goal

pub overflow_sub-result : goal.overflow_sub-result
overflow_sub-result c = omega (arith, c.sum_count.ensures, few-first c.args.p)
