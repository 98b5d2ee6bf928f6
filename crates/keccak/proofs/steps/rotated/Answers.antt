-- A rotation by 0 is the number itself; any other is the two shifts, whose bits do not meet (`Rotation`).
use Rattle.std.proofs.Common.{arith}
use Rattle.fips.specs.Steps.{rotl}
use Rattle.keccak.proofs.Rotation.{or-rotl, rotl-zero}
use Rattle.keccak.proofs.steps.rotated.Goals as goal

pub returns-then-r-eq0 : goal.returns-then-r-eq0
unfolding rotl
returns-then-r-eq0 c = rw c.if-r-eq0.true (rotl-zero _ _ c.ranges.x.fits)

pub returns-else-r-eq0 : goal.returns-else-r-eq0
unfolding rotl
returns-else-r-eq0 c = or-rotl c.args.x c.args.r 64 (omega arith) c.ranges.x.fits
