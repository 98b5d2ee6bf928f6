-- The leaf's string, hashed on from the sponge given, gives the bytes.
use Rattle.std.proofs.Common.{append-nil, ap₂, ◌∙◌}
use Rattle.leaves.specs.After.{bytes_after}
use Rattle.leaves.proofs.leaf_state.Goals as goal

pub returns : goal.returns
returns c = c.leaf_hash.ensures ∙ ap₂ (bytes_after c.args.states c.args.leaf) (append-nil c.args.seed.now) c.requires.room
