-- There are at most 8 levels, so the product fits.
use Rattle.std.proofs.Common.{ap, arith, ◌*◌}
use Rattle.layout.specs.Layout.Bounds.{levels-most}
use Rattle.layout.proofs.siblings_length.Goals as goal

pub overflow_mul-result : goal.overflow_mul-result
overflow_mul-result c = omega (arith, levels-most _ c.requires, c.levels.ensures)

pub returns : goal.returns
returns c = ap (◌*◌ 16) c.levels.ensures
