-- The hidden leaf's commitment is absorbed as it is given, any other leaf's as it comes from its part of the states.
use Rattle.std.proofs.Common.{Bool, List, ap, cond, eq-eqb, ne_eqb, sym, ℕ, ◌*◌, ◌∙◌}
use Rattle.shake256.specs.Stream.{absorbed}
use Rattle.lists.specs.Part.Laws.{lent-part}
use Rattle.leaves.specs.After.{commitment_after}
use Rattle.leaves.specs.States.{state_at}
use Rattle.leaves.specs.Commitments.{commitments_after}
use Rattle.leaves.proofs.commitments.absorb_commitment.Goals as goal

pub returns-then-leaf-hidden_leaf : goal.returns-then-leaf-hidden_leaf
unfolding commitments_after
returns-then-leaf-hidden_leaf c = let args = c.args in
    let own = commitment_after args.start args.p args.leaf (state_at args.states.now args.leaf) args.aux.now in
    c.absorb.ensures
    ∙ ap (λ (t : Bool). absorbed args.all (cond t args.given.now own)) (sym (eq-eqb args.leaf args.hidden_leaf c.if-leaf-hidden_leaf.true))

pub returns : goal.returns
unfolding commitments_after
returns c = let args = c.args in
    let own = commitment_after args.start args.p args.leaf (state_at args.states.now args.leaf) args.aux.now in
    c.absorb-2.ensures ∙ ap (absorbed args.all) (c.leaf_commitment.ensures
    ∙ ap (λ (st : List ℕ). commitment_after args.start args.p args.leaf st args.aux.now) (lent-part args.states.now (32 * args.leaf) 32))
    ∙ ap (λ (t : Bool). absorbed args.all (cond t args.given.now own)) (sym (ne_eqb args.leaf args.hidden_leaf c.if-leaf-hidden_leaf.false))
