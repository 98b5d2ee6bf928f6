use Rattle.std.proofs.Common.{ap, arith, length, ◌<◌}
use Rattle.shake256.proofs.Lanes.{stored-more}
use Rattle.shake256.proofs.bytes.store.Goals as goal

pub loop-j-preserved : goal.loop-j-preserved
loop-j-preserved c = let b = c.to_le_bytes-bytes in let here : c.loop-j.j < length b.result = omega (arith, ap length b.ensures) in
    stored-more b.result c.args.out.now c.loop-j.out c.loop-j.j here (omega arith) c.loop-j.invariant
