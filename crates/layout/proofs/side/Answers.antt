-- A side has two parties.
use Rattle.std.proofs.Common.{refl}
use Rattle.layout.specs.Layout.{bits}
use Rattle.layout.proofs.side.Goals as goal

pub returns : goal.returns
unfolding bits
returns c = refl
