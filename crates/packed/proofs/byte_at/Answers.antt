-- A shift down and the low byte are the definition.
use Rattle.std.proofs.Common.{refl}
use Rattle.packed.specs.Share.{byte_at}
use Rattle.packed.proofs.byte_at.Goals as goal

pub returns : goal.returns
unfolding byte_at
returns c = refl
