-- The label is the one of specs/Expanded.
use Rattle.unlock.specs.Expanded.{salt_label}
use Rattle.unlock.proofs.default_key.salt.Goals as goal

pub returns : goal.returns
unfolding salt_label
returns c = c.expanded.ensures
