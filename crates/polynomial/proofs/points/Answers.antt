use Rattle.std.proofs.Common.{arith, refl, ◌∙◌}
use Rattle.lists.specs.Blend.Laws.{blend-none, blend-all}
use Rattle.polynomial.specs.Interpolant.Laws.{length-ascending}
use Rattle.polynomial.specs.Loops.Points.{points-turn}
use Rattle.polynomial.proofs.points.Goals as goal

pub loop-i-init : goal.loop-i-init
loop-i-init c = blend-none _ _

pub loop-i-preserved : goal.loop-i-preserved
loop-i-preserved c = let l = c.loop-i in
    points-turn 255 l.i _ _ l.f-items refl (omega arith) refl l.invariant

pub returns : goal.returns
returns c = let l = c.loop-i in l.invariant ∙ blend-all l.i _ _ (length-ascending 1 255) (omega arith)
