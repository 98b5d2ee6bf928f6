-- The definition of `skipped` is the call.
use Rattle.seedtree.specs.Way.{skipped}
use Rattle.seedtree.proofs.nodes.Way.skipped.Goals as goal

pub returns : goal.returns
unfolding skipped
returns c = c.second.ensures
