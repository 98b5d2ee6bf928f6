-- There are at most 256 leaves.
use Rattle.std.proofs.Common.{ap₂, arith, ◌+◌}
use Rattle.layout.specs.Layout.{output_length}
use Rattle.layout.specs.Layout.Bounds.{leaves-most}
use Rattle.layout.proofs.output_length.Goals as goal

pub overflow_add-result : goal.overflow_add-result
overflow_add-result c =
    omega (arith, leaves-most _ c.requires, c.states_length.ensures)

pub returns : goal.returns
unfolding output_length
returns c = ap₂ ◌+◌ c.states_length.ensures c.aux_length.ensures
