-- All that an opening gives takes at most 9760 bytes.
use Rattle.std.proofs.Common.{arith}
use Rattle.layout.specs.Layout.Bounds.{opened-most}
use Rattle.layout.proofs.rows_end.Goals as goal

pub overflow_add-result : goal.overflow_add-result
overflow_add-result c =
    omega (arith, c.rows_length.ensures, c.states_length.ensures, opened-most c.args.p c.requires)
