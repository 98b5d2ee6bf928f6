-- By cases: `put-hit` and `put-miss`.
use Rattle.std.proofs.Common.{refl}
use Rattle.key.specs.Loops.Gather.{put-hit, put-miss}
use Rattle.key.proofs.put_if.Goals as goal

pub returns-then-hit : goal.returns-then-hit
returns-then-hit c = let a = c.args in put-hit a.hit a.out.now a.at a.b _ c.if-hit.true refl

pub returns : goal.returns
returns c = let a = c.args in put-miss a.hit a.out.now a.at a.b c.if-hit.false
