-- The lent tail comes back multiplied by X + f (`root-added`).
use Rattle.std.proofs.Common.{arith}
use Rattle.polynomial.specs.Loops.Roots.{root-added}
use Rattle.polynomial.proofs.add_root.Goals as goal

pub returns : goal.returns
returns c = let a = c.args in root-added a.p.now _ a.at a.f (omega arith) c.expand.ensures
