use Rattle.std.proofs.Common.{arith}
use Rattle.key.specs.Loops.Image.{dot-start, dot-turn, dot-end}
use Rattle.key.proofs.row.Goals as goal

pub loop-i-init : goal.loop-i-init
loop-i-init c = dot-start _ _

pub loop-i-preserved : goal.loop-i-preserved
loop-i-preserved c = let a = c.args in
    dot-turn a.h.now a.x.now c.loop-i.i c.loop-i.acc _ _ _ (omega arith) (omega arith) c.product.ensures c.sum-acc.ensures c.loop-i.invariant

pub returns : goal.returns
returns c = dot-end _ _ c.loop-i.i _ _ (omega arith) c.loop-i.invariant
