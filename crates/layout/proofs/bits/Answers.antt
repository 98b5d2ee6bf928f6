-- A side takes one bit.
use Rattle.std.proofs.Common.{refl}
use Rattle.layout.specs.Layout.{bits}
use Rattle.layout.proofs.bits.Goals as goal

pub returns : goal.returns
unfolding bits
returns c = refl
