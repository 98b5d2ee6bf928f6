-- The definition of `side` is the call.
use Rattle.seedtree.specs.Way.{side}
use Rattle.seedtree.proofs.nodes.Way.side.Goals as goal

pub returns : goal.returns
unfolding side
returns c = c.second.ensures
