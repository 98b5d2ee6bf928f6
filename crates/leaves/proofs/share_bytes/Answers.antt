-- The leaf's string, hashed on from the sponge given, gives the bytes; the seed is the front of the state.
use Rattle.std.proofs.Common.{List, ap, append-nil, length, length-take-le, sym, take, ℕ, ◌∙◌}
use Rattle.leaves.specs.After.{bytes_after}
use Rattle.leaves.proofs.share_bytes.Goals as goal

pub slice_bounds-leaf_hash-end : goal.slice_bounds-leaf_hash-end
slice_bounds-leaf_hash-end c = sym (length-take-le 16 c.args.state.now c.requires.seed)

pub returns : goal.returns
returns c = c.leaf_hash.ensures
    ∙ ap (λ (m : List ℕ). bytes_after c.args.shares c.args.leaf m (length c.args.out.now)) (append-nil (take 16 c.args.state.now))
