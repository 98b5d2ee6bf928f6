use Rattle.std.proofs.Common.{arith, sym, ◌∙◌}
use Rattle.runs.specs.Points.{distinct_in}
use Rattle.runs.proofs.Points.Laws.{some-fails, all_none, all_more, all_end}
use Rattle.challenge.proofs.distinct_in.Goals as goal

pub loop-l-init : goal.loop-l-init
loop-l-init c = all_none _

pub returns-then-not-new_point : goal.returns-then-not-new_point
unfolding distinct_in
returns-then-not-new_point c = sym (some-fails _ _ c.loop-l.l (omega arith) (sym c.new_point.ensures ∙ c.if-not-new_point.true))

pub loop-l-preserved : goal.loop-l-preserved
loop-l-preserved c =
    all_more _ c.loop-l.l c.loop-l.invariant (sym c.new_point.ensures ∙ c.if-not-new_point.false)

pub returns : goal.returns
unfolding distinct_in
returns c = all_end _ c.args.t c.loop-l.l (omega arith) (omega arith) c.loop-l.invariant
