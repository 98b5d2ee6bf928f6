-- A byte moved up by at most seven bytes loses no bit.
use Rattle.std.proofs.Common.{arith, shl_exact, ◌*◌}
use Rattle.packed.specs.Share.{placed}
use Rattle.packed.proofs.placed.Goals as goal

pub returns : goal.returns
unfolding placed
returns c = shl_exact 8 (8 * c.args.i) 64 c.ranges.b.fits (omega arith)
