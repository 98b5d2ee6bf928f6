use Rattle.std.proofs.Common.{arith}
use Rattle.relation.proofs.Laws.Key.Positions.{weight-le}
use Rattle.key.specs.Loops.Weight.{weight-zero, weight-other, weight-end}
use Rattle.key.proofs.weight.Goals as goal
use Rattle.key.proofs.weight.Goals.{then-b-ne0, else-b-ne0}

pub overflow_add-n : goal.overflow_add-n
overflow_add-n c = omega (arith, weight-le c.args.x.now)

pub loop-b-preserved : goal.loop-b-preserved
loop-b-preserved c = let x = c.args.x.now in
    elim c.if-b-ne0.branch [
      | then-b-ne0 w ↦ omega (arith, weight-other x c.loop-b.b-index (omega arith) w.if-b-ne0.true)
      | else-b-ne0 w ↦ omega (arith, weight-zero x c.loop-b.b-index (omega arith) w.if-b-ne0.false)
    ]

pub returns : goal.returns
returns c = omega (arith, weight-end c.args.x.now c.loop-b.b-index (omega arith))
