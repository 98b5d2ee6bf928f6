-- The seed tree has at most 8 levels, so the sums fit.
use Rattle.std.proofs.Common.{arith}
use Rattle.layout.specs.Layout.Bounds.{levels-most}
use Rattle.reader.proofs.opening.aux_place.Goals as goal

pub overflow_add-result : goal.overflow_add-result
overflow_add-result c = omega (arith, levels-most _ c.requires, c.siblings_length.ensures)

pub overflow_add-result-2 : goal.overflow_add-result-2
overflow_add-result-2 c =
    omega (arith, levels-most _ c.requires, c.siblings_length.ensures, c.values_length.ensures)
