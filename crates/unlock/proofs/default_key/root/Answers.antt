-- The label is the one of specs/Expanded.
use Rattle.unlock.specs.Expanded.{root_label}
use Rattle.unlock.proofs.default_key.root.Goals as goal

pub returns : goal.returns
unfolding root_label
returns c = c.expanded.ensures
