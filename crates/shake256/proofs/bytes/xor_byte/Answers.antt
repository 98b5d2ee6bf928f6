-- The byte moved up to its place in the lane loses no bit.
use Rattle.std.proofs.Common.{ap, arith, bit_xor, get_or, set, shl_exact, ℕ, ◌∙◌, ◌*◌, ◌/◌, ◌%◌, ◌^◌}
use Rattle.shake256.proofs.bytes.xor_byte.Goals as goal

pub returns : goal.returns
returns c = let a = c.args.a.now in let at = c.args.at in
    ap (λ (n : ℕ). set a (at / 8) (bit_xor (get_or a (at / 8) 0) n))
    (ap (λ (n : ℕ). n * 2 ^ (8 * (at % 8)) % 2 ^ 64) c.from.ensures ∙ shl_exact 8 (8 * (at % 8)) 64 c.ranges.v.fits (omega arith))
