-- Four bytes that are read are those of the point (`bytes_read`).
use Rattle.std.proofs.Common.{arith}
use Rattle.points.specs.Written.{bytes_read}
use Rattle.points.proofs.encoding.point_at.Goals as goal

pub returns : goal.returns
returns c =
    let a = c.args in bytes_read a.s.now a.at (λ j. omega (arith, c.type_inv.s j))
