-- The label is the one of specs/Expanded.
use Rattle.unlock.specs.Expanded.{points_label}
use Rattle.unlock.proofs.default_key.points.Goals as goal

pub returns : goal.returns
unfolding points_label
returns c = c.expand.ensures
