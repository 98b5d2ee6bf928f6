use Rattle.std.proofs.Common.{ap, arith, below_more, rules, tests, ◌∙◌}
use Rattle.layout.specs.Layout.Bounds.{leaves-most}
use Rattle.extractor.specs.Comparison.{leaf_at, both_apart}
use Rattle.extractor.specs.Head.{first_below, first_below-found, first_below-never}
use Rattle.extractor.proofs.opened.first_leaf.Goals as goal

pub returns-then-leaf_differs : goal.returns-then-leaf_differs
returns-then-leaf_differs c = first_below-found (both_apart c.args.first.hidden c.args.second.hidden (leaf_at c.args.p c.args.first.made.now c.args.first.aux.now) (leaf_at c.args.p c.args.second.made.now c.args.second.aux.now)) _ c.loop-leaf.leaf (c.loop-leaf-test.true) (search (rules, tests)) c.loop-leaf.invariant ∙ ap (first_below _) c.leaf_count-leaf-end.ensures

pub overflow_cast-result : goal.overflow_cast-result
overflow_cast-result c = omega (arith, c.loop-leaf-test.true, c.leaf_count-leaf-end.ensures, leaves-most c.args.p c.requires.within)

pub loop-leaf-preserved : goal.loop-leaf-preserved
loop-leaf-preserved c = below_more _ _ c.loop-leaf.invariant (search (rules, tests))

pub returns : goal.returns
returns c = first_below-never (both_apart c.args.first.hidden c.args.second.hidden (leaf_at c.args.p c.args.first.made.now c.args.first.aux.now) (leaf_at c.args.p c.args.second.made.now c.args.second.aux.now)) _ (λ j l. c.loop-leaf.invariant j (omega arith)) ∙ ap (first_below _) c.leaf_count-leaf-end.ensures
