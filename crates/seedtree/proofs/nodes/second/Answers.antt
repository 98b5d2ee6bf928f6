-- Each way out has the case of the definition that its test picks.
use Rattle.std.proofs.Common.{le-ltb, lt-ltb}
use Rattle.seedtree.specs.Way.{second}
use Rattle.seedtree.proofs.nodes.second.Goals as goal

pub returns-then-leaf-half : goal.returns-then-leaf-half
unfolding second
returns-then-leaf-half c = rw (lt-ltb _ _ c.if-leaf-half.true)

pub returns-else-leaf-half : goal.returns-else-leaf-half
unfolding second
returns-else-leaf-half c = rw (le-ltb _ _ c.if-leaf-half.false)
