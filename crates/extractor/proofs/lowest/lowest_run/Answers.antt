use Rattle.std.proofs.Common.{arith, below_more, rules, tests}
use Rattle.extractor.specs.Lowest.{leaves_differ}
use Rattle.extractor.specs.Head.{first_below-found, first_below-never}
use Rattle.extractor.proofs.lowest.lowest_run.Goals as goal

pub returns-then-leaf-second4 : goal.returns-then-leaf-second4
returns-then-leaf-second4 c = first_below-found (leaves_differ c.args.first4.now c.args.second4.now) _ c.loop-run.run (c.loop-run-test.true) (search (rules, tests)) c.loop-run.invariant

pub loop-run-preserved : goal.loop-run-preserved
loop-run-preserved c = below_more _ _ c.loop-run.invariant (search (rules, tests))

pub returns : goal.returns
returns c = first_below-never (leaves_differ c.args.first4.now c.args.second4.now) _ (λ j l. c.loop-run.invariant j (omega arith))
