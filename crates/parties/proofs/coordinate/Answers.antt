-- A shift divides by a power of the side, and the mask is the remainder by the side.
use Rattle.std.proofs.Common.{ap, ap₂, arith, bit_and, mul-le-mul_left, ℕ, ◌*◌, ◌/◌, ◌^◌, ◌∙◌, ◌≤◌}
use lib.Bits.{and_mask}
use Rattle.layout.specs.Layout.{bits, digit}
use Rattle.layout.specs.Layout.Bounds.{levels-most}
use Rattle.parties.proofs.coordinate.Goals as goal
use Rattle.parties.proofs.coordinate.Goals.{After-bits}

short : (c : After-bits) → c.bits.result * c.args.axis ≤ 8
short c =
    let e : bits c.args.p * c.args.axis ≤ bits c.args.p * c.args.p.axes = mul-le-mul_left (bits c.args.p) (omega (arith, c.requires.1)) in
    omega (arith, levels-most c.args.p c.requires.0, ap (λ (n : ℕ). n * c.args.axis) c.bits.ensures)

pub overflow_mul-result : goal.overflow_mul-result
overflow_mul-result c = omega (arith, short (goal.at.overflow_mul-result c).After-bits)

pub overflow_shr-result : goal.overflow_shr-result
overflow_shr-result c = omega (arith, short (goal.at.overflow_shr-result c).After-bits)

pub returns : goal.returns
unfolding digit
returns c = let a = c.args in
    ap₂ (λ (n m : ℕ). bit_and (a.leaf / 2 ^ (n * a.axis)) m) c.bits.ensures c.others.ensures ∙ and_mask _ (bits a.p)
