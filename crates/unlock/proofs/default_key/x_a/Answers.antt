-- The constant is the list of specs/Key, entry by entry.
use Rattle.std.proofs.Common.{refl}
use Rattle.unlock.specs.Key.{default_x_a}
use Rattle.unlock.proofs.default_key.x_a.Goals as goal

pub returns : goal.returns
unfolding default_x_a
returns c = refl
