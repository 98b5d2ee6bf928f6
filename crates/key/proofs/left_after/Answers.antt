-- By cases, as `spared` is.
use Rattle.std.proofs.Common.{arith}
use Rattle.key.specs.Loops.Positions.{spared_other, spared-zero}
use Rattle.key.proofs.left_after.Goals as goal

pub returns-then-b-ne0 : goal.returns-then-b-ne0
returns-then-b-ne0 c = spared_other _ _ c.if-b-ne0.true

pub returns : goal.returns
returns c = spared-zero _ _ _ (omega arith) c.saturating_sub.ensures
