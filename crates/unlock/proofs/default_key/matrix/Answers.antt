-- The label is the one of specs/Expanded.
use Rattle.unlock.specs.Expanded.{matrix_label}
use Rattle.unlock.proofs.default_key.matrix.Goals as goal

pub returns : goal.returns
unfolding matrix_label
returns c = c.expand.ensures
