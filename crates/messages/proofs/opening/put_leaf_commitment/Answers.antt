-- The start of layer 4 is made, and the leaf's string goes on from it.
use Rattle.std.proofs.Common.{◌∙◌}
use Rattle.leaves.specs.After.Laws.{commitment-begun}
use Rattle.messages.proofs.opening.put_leaf_commitment.Goals as goal

pub returns : goal.returns
returns c = let a = c.args in
    c.leaf_commitment.ensures
    ∙ commitment-begun _ a.prefix.now a.p a.leaf a.state.now a.aux.now c.begin.ensures
