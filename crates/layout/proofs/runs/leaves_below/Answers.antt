use Rattle.std.proofs.Common.{ap, arith, sym, ℕ, ◌∙◌}
use Rattle.layout.specs.Runs.Laws.{all_below, below_more, below-stop, below_end}
use Rattle.layout.proofs.runs.leaves_below.Goals as goal

pub returns-then-from-n : goal.returns-then-from-n
returns-then-from-n c = sym (below-stop c.leaf_count-n.result c.args.leaves.now c.loop-leaf.leaf-index (omega arith) (omega (arith, c.from.ensures, c.if-from-n.true)))
    ∙ sym c.loop-leaf.invariant ∙ ap (λ (k : ℕ). all_below k c.args.leaves.now) c.leaf_count-n.ensures

pub loop-leaf-preserved : goal.loop-leaf-preserved
loop-leaf-preserved c = c.loop-leaf.invariant ∙ below_more c.leaf_count-n.result c.args.leaves.now c.loop-leaf.leaf-index (omega arith) (omega (arith, c.from.ensures, c.if-from-n.false))

pub returns : goal.returns
returns c = sym (below_end c.leaf_count-n.result c.args.leaves.now c.loop-leaf.leaf-index (omega arith))
    ∙ sym c.loop-leaf.invariant ∙ ap (λ (k : ℕ). all_below k c.args.leaves.now) c.leaf_count-n.ensures
