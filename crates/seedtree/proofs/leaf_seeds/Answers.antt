-- The start of layer 1 is made once, and `below` does the rest from the root.
use Rattle.seedtree.proofs.leaf_seeds.Goals as goal

pub returns : goal.returns
returns c = c.below.ensures _ c.begin-nodes.ensures
