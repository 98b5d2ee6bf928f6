-- There are at most 8 levels, so the product fits.
use Rattle.std.proofs.Common.{ap, arith, ℕ, ◌*◌}
use Rattle.layout.specs.Layout.Bounds.{levels-most}
use Rattle.layout.proofs.levels.Goals as goal

pub overflow_mul-result : goal.overflow_mul-result
overflow_mul-result c = omega (arith, levels-most _ c.requires, ap (λ (n : ℕ). n * c.args.p.axes) c.bits.ensures)

pub returns : goal.returns
returns c = ap (λ (n : ℕ). n * c.args.p.axes) c.bits.ensures
