-- The sum is the exclusive or by definition.
use Rattle.std.proofs.Common.{refl}
use Rattle.lists.specs.Xor.{◌⊕◌}
use Rattle.bytefield.proofs.sum.Goals as goal

pub returns : goal.returns
unfolding ◌⊕◌
returns c = refl
