-- Both are 25 zeros at place 0.
use Rattle.std.proofs.Common.{refl}
use Rattle.shake256.specs.Stream.{start}
use Rattle.shake256.proofs.Sponge.new.Goals as goal

pub returns : goal.returns
unfolding start
returns c = refl
