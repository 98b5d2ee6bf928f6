-- A whole lane is xored in at once (`taken-lane`), or one byte is.
use Rattle.std.proofs.Common.{ap, arith, bit_xor, get_or, length, length-take-le, set, sym, take, ℕ, ◌≡◌, ◌∙◌, ◌/◌}
use Rattle.shake256.specs.Bytes.{xor_bytes}
use Rattle.shake256.proofs.Lanes.{taken-lane, part-cons}
use Rattle.shake256.proofs.take_some.Goals as goal

pub returns-then-s-ge8 : goal.returns-then-s-ge8
returns-then-s-ge8 c =
    let a = c.args.lanes.now in let s = c.args.s.now in let n = c.args.at in
    let eight : length (take 8 s) ≡ 8 = length-take-le 8 s (omega arith) in
    let lane = taken-lane a n (take 8 s) c.if-at-eq0.true (omega (arith, eight)) in
    let is = ap (λ (w : ℕ). set a (n / 8) (bit_xor (get_or a (n / 8) 0) w)) c.word.ensures ∙ lane in
    record { some = omega arith; within = omega arith; room = omega arith; is = is }

pub returns-else-at-eq0 : goal.returns-else-at-eq0
unfolding xor_bytes
returns-else-at-eq0 c =
    let a = c.args in
    let part = sym (part-cons a.s.now 0 0 (omega (arith, c))) in
    let is = c.xor_byte.ensures ∙ ap (xor_bytes a.lanes.now a.at) part in
    record { some = omega arith; within = omega (arith, c); room = omega (arith, c); is = is }
