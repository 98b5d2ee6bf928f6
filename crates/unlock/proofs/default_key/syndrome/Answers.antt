-- The constant is the list of specs/Key, entry by entry.
use Rattle.std.proofs.Common.{refl}
use Rattle.unlock.specs.Key.{default_y}
use Rattle.unlock.proofs.default_key.syndrome.Goals as goal

pub returns : goal.returns
unfolding default_y
returns c = refl
