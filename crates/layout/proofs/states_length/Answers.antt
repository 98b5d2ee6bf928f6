-- There are at most 256 leaves.
use Rattle.std.proofs.Common.{arith}
use Rattle.layout.specs.Layout.Bounds.{leaves-most}
use Rattle.layout.proofs.states_length.Goals as goal

pub overflow_mul-result : goal.overflow_mul-result
overflow_mul-result c = omega (arith, c.leaf_count.ensures, leaves-most c.args.p c.requires)
