use Rattle.std.proofs.Common.{ap, arith, below_more, rules, tests, ◌∙◌}
use Rattle.layout.specs.Layout.Bounds.{leaves-most}
use Rattle.extractor.specs.Comparison.{commitments, apart}
use Rattle.extractor.specs.Opened.{seen}
use Rattle.extractor.specs.Head.{first_below, first_below-found, first_below-never}
use Rattle.extractor.proofs.commitments.first_commitment.Goals as goal

pub returns-then-not-same_commitment : goal.returns-then-not-same_commitment
unfolding apart
returns-then-not-same_commitment c = first_below-found (apart (commitments c.args.p c.args.prefix.now (seen c.args.p c.args.first)) (commitments c.args.p c.args.prefix.now (seen c.args.p c.args.second))) _ c.loop-leaf.leaf (c.loop-leaf-test.true) (search (rules, tests)) c.loop-leaf.invariant ∙ ap (first_below _) c.leaf_count-leaf-end.ensures

pub overflow_cast-result : goal.overflow_cast-result
overflow_cast-result c = omega (arith, c.loop-leaf-test.true, c.leaf_count-leaf-end.ensures, leaves-most c.args.p c.requires.within)

pub loop-leaf-preserved : goal.loop-leaf-preserved
unfolding apart
loop-leaf-preserved c = below_more _ _ c.loop-leaf.invariant (search (rules, tests))

pub returns : goal.returns
returns c = first_below-never (apart (commitments c.args.p c.args.prefix.now (seen c.args.p c.args.first)) (commitments c.args.p c.args.prefix.now (seen c.args.p c.args.second))) _ (λ j l. c.loop-leaf.invariant j (omega arith)) ∙ ap (first_below _) c.leaf_count-leaf-end.ensures
