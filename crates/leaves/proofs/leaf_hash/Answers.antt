-- The number is the string's first piece behind its start.
use Rattle.leaves.specs.After.{bytes_after}
use Rattle.leaves.proofs.leaf_hash.Goals as goal

pub returns : goal.returns
unfolding bytes_after
returns c = c.hash.ensures
