-- The hidden leaf's place is written with zeros. For any other the seed is read before the state's part is lent, and that
-- part comes back as a write.
use Rattle.std.proofs.Common.{ap, length, sym, ◌*◌, ◌+◌, ◌∙◌, ◌≡◌}
use Rattle.lists.specs.Part.{put_at}
use Rattle.lists.specs.Part.Laws.{lent-part}
use Rattle.seedtree.proofs.Lent.{part-back}
use Rattle.leaves.specs.After.{state_after}
use Rattle.leaves.specs.After.Laws.{length-bytes_after}
use Rattle.leaves.specs.States.{seed_at}
use Rattle.leaves.specs.States.Laws.{unless_hidden-hidden, unless_hidden-other}
use Rattle.leaves.proofs.states.put_state.Goals as goal

pub returns-then-leaf-hidden_leaf : goal.returns-then-leaf-hidden_leaf
returns-then-leaf-hidden_leaf c = let leaf = c.args.leaf in
    c.put_at.ensures
    ∙ ap (put_at c.args.states.now (32 * leaf)) (sym (unless_hidden-hidden c.args.hidden_leaf leaf _ c.if-leaf-hidden_leaf.true))

pub returns : goal.returns
returns c = let leaf = c.args.leaf in let w = c.args.states.now in
    let is : c.leaf_state.new.out ≡ state_after c.args.start leaf (seed_at w (c.args.n + leaf)) =
    c.leaf_state.ensures ∙ ap (state_after c.args.start leaf) (c.array-seed.ensures ∙ lent-part w (16 * (c.args.n + leaf)) 16) in
    part-back w _ (32 * leaf) 32 (ap length is ∙ length-bytes_after c.args.start leaf _ 32)
    ∙ ap (put_at w (32 * leaf)) (is ∙ sym (unless_hidden-other c.args.hidden_leaf leaf _ c.if-leaf-hidden_leaf.false))
