-- The product by 1b fits, since each factor's byte is 0 or 1; the rest is `doubled-scaled`.
use Rattle.std.proofs.Common.{arith, ◌/◌}
use lib.Bits.{and_le_r}
use Rattle.lists.specs.Xor.{◌⊕◌}
use Rattle.packed.specs.Doubling.{doubled, doubled-scaled}
use Rattle.packed.proofs.doubled.Goals as goal

pub overflow_mul-result : goal.overflow_mul-result
overflow_mul-result c = omega (arith, and_le_r (c.args.v / 128) 0x0101010101010101)

pub returns : goal.returns
unfolding doubled ◌⊕◌
returns c = doubled-scaled c.args.v c.ranges.v.fits
