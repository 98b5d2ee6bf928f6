-- The complement is the product over the bytes above m.
use Rattle.std.proofs.Common.{ap₂, arith, length, ℕ, ◌+◌, ◌-◌, ◌∙◌, ◌≡◌}
use Rattle.algebra.specs.Polynomial.{vanishing}
use Rattle.bytefield.specs.Product.{byte_ops}
use Rattle.polynomial.specs.Interpolant.{ascending}
use Rattle.interpolants.specs.Complement.{complement_of}
use Rattle.interpolants.proofs.complement.Goals as goal

pub returns : goal.returns
unfolding complement_of
returns c = let a : c.args.m + 1 ≡ 1 + c.args.m = omega arith in
    let n : length c.args.out.now - 1 ≡ 255 - c.args.m = omega arith in
    c.vanishing_above.ensures ∙ ap₂ (λ (f l : ℕ). vanishing byte_ops (ascending f l)) a n
