use Rattle.std.proofs.Common.{ap, arith, not, sym, ◌∙◌}
use Rattle.runs.specs.Points.{new_point}
use Rattle.runs.proofs.Points.Laws.{some-fails, all_none, all_more, all_end}
use Rattle.challenge.proofs.new_point.Goals as goal

pub loop-i-init : goal.loop-i-init
loop-i-init c = all_none _

pub returns-then-same_point : goal.returns-then-same_point
unfolding new_point
returns-then-same_point c = sym (some-fails _ _ c.loop-i.i (omega arith) (ap not (sym c.same_point.ensures ∙ c.if-same_point.true)))

pub loop-i-preserved : goal.loop-i-preserved
loop-i-preserved c =
    all_more _ c.loop-i.i c.loop-i.invariant (ap not (sym c.same_point.ensures ∙ c.if-same_point.false))

pub returns : goal.returns
unfolding new_point
returns c = all_end _ c.args.l c.loop-i.i (omega arith) (omega arith) c.loop-i.invariant
