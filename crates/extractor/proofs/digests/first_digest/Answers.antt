use Rattle.std.proofs.Common.{arith, below_more, rules, tests}
use Rattle.extractor.specs.Comparison.{digest_at, apart}
use Rattle.extractor.specs.Head.{first_below-found, first_below-never}
use Rattle.extractor.proofs.digests.first_digest.Goals as goal

pub returns-then-not-same_digest : goal.returns-then-not-same_digest
unfolding apart
returns-then-not-same_digest c = first_below-found (apart (digest_at c.args.p c.args.prefix.now c.args.rows.now) (digest_at c.args.p c.args.prefix.now c.args.others.now)) _ c.loop-axis.axis (c.loop-axis-test.true) (search (rules, tests)) c.loop-axis.invariant

pub loop-axis-preserved : goal.loop-axis-preserved
unfolding apart
loop-axis-preserved c = below_more _ _ c.loop-axis.invariant (search (rules, tests))

pub returns : goal.returns
returns c = first_below-never (apart (digest_at c.args.p c.args.prefix.now c.args.rows.now) (digest_at c.args.p c.args.prefix.now c.args.others.now)) _ (λ j l. c.loop-axis.invariant j (omega arith))
