-- The five parts are those of `prover_bytes`.
use Rattle.std.proofs.Common.{ap, arith, length, ◌≡◌}
use Rattle.stored.specs.Prover.{prover_bytes}
use Rattle.stored.proofs.write_prover.Goals as goal

pub write_parts-requires : goal.write_parts-requires
write_parts-requires c =
    let x : length c.args.s.now.x ≡ 255 = search in
    let salt : length c.args.s.now.salt ≡ 32 = search in
    let root : length c.args.s.now.root ≡ 16 = search in
    let message2 : length c.args.s.now.message2 ≡ 2_048 = search in
    omega (arith, x, salt, root, message2, ap length c.head-start.ensures, c.requires.0)

pub returns : goal.returns
unfolding prover_bytes
returns c = rw (c.write_parts.ensures, c.head-start.ensures, c.from.ensures)
