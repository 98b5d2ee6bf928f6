-- x_A is written, H'x_A behind it, and y is added there (`vector-made`).
use Rattle.std.proofs.Common.{refl}
use Rattle.key.specs.Loops.Vector.{vector-made}
use Rattle.key.proofs.vector.Goals as goal

pub returns : goal.returns
returns c = let a = c.args in vector-made a.matrix.now a.y.now a.x_a.now a.out.now _ _ _ _ c.requires.0
    c.put_at.ensures c.image.ensures refl c.xor_into.ensures
