use Rattle.std.proofs.Common.{arith, ◌∙◌}
use Rattle.lists.specs.Blend.Laws.{blend-none, blend-all}
use Rattle.algebra.specs.Polynomial.Lengths.{length-slopes}
use Rattle.bytefield.specs.Product.{byte_ops}
use Rattle.bytefield.specs.Inverse.{inverse}
use Rattle.polynomial.specs.Loops.Slopes.{slopes-turn}
use Rattle.polynomial.proofs.slopes.Goals as goal

pub loop-i-init : goal.loop-i-init
loop-i-init c = blend-none _ _

pub loop-i-preserved : goal.loop-i-preserved
loop-i-preserved c = let a = c.args in
    slopes-turn a.f a.y c.loop-i.i a.gs.now a.zs.now c.loop-i.zs _ _ _ _ c.requires (omega (arith, c.requires)) c.loop-i.invariant
    c.sum.ensures c.sum-in-loop-i.ensures c.inverse.ensures c.product.ensures

pub returns : goal.returns
returns c = let a = c.args in c.loop-i.invariant
    ∙ blend-all c.loop-i.i _ _ (length-slopes byte_ops inverse a.f a.y a.gs.now a.zs.now c.requires) (omega (arith, c.requires))
