-- The commitment takes the first 32 bytes, α and β what is behind them.
use Rattle.std.proofs.Common.{ap, ap₂, arith, length, sym, ◌++◌, ◌∙◌, ◌≤◌}
use Rattle.lists.specs.Part.Laws.{tail-part}
use Rattle.points.specs.Written.{front_length}
use Rattle.values.specs.Leaf.{leaf_values}
use Rattle.messages.specs.Opening.{leaf_bytes}
use Rattle.messages.proofs.Laws.Opening.{two_made}
use Rattle.messages.proofs.opening.put_leaf.Goals as goal
use Rattle.messages.proofs.opening.put_leaf.Goals.{Start}

fits : (c : Start) → 32 ≤ length c.args.out.now
fits c =
    omega (arith, c.requires.1)

room : (c : Start) → 32 ≤ length c.args.own.now
room c =
    omega (arith, c.requires.0.own_is)

pub slice_bounds-put_leaf_commitment-end : goal.slice_bounds-put_leaf_commitment-end
slice_bounds-put_leaf_commitment-end c = front_length 32 c.args.own.now (room (goal.at.slice_bounds-put_leaf_commitment-end c).Start)

pub slice_bounds-put_leaf_commitment-end-3 : goal.slice_bounds-put_leaf_commitment-end-3
slice_bounds-put_leaf_commitment-end-3 c = front_length 32 c.args.out.now (fits (goal.at.slice_bounds-put_leaf_commitment-end-3 c).Start)

pub put_leaf_commitment-requires : goal.put_leaf_commitment-requires
put_leaf_commitment-requires c = (c.requires.0.within, c.requires.0.number, sym (front_length 32 c.args.out.now (fits (goal.at.put_leaf_commitment-requires c).Start)))

pub returns : goal.returns
unfolding leaf_bytes
returns c = let a = c.args in
    two_made 32 a.out.now c.put_leaf_commitment.new.out c.announce_leaf.new.out (fits (goal.at.returns c).Start)
    c.put_leaf_commitment.auto.out ∙ ap₂ ◌++◌ c.put_leaf_commitment.ensures (c.announce_leaf.ensures.0
    ∙ ap (leaf_values a.p a.matrix.now a.message2.now) (tail-part a.own.now 32))
