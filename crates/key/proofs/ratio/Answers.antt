-- A zero stays; otherwise the sum of logarithms gives the product of the distances (`ratio-made`).
use Rattle.std.proofs.Common.{arith}
use Rattle.key.specs.Loops.Quotient.{ratio-zero, ratio-made}
use Rattle.key.proofs.ratio.Goals as goal

pub returns-then-y-eq0 : goal.returns-then-y-eq0
returns-then-y-eq0 c = ratio-zero _ _ (omega arith)

pub returns : goal.returns
returns c = ratio-made _ _ _ _ _ _ c.log_distances.ensures c.power_of-d.ensures c.inverse.ensures c.product.ensures
