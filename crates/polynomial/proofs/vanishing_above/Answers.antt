use Rattle.std.proofs.Common.{List, ap, arith, length, length-set, refl, ℕ, ◌+◌, ◌-◌}
use Rattle.algebra.specs.Polynomial.{product}
use Rattle.bytefield.specs.Product.{byte_ops}
use Rattle.polynomial.specs.Interpolant.{ascending}
use Rattle.polynomial.specs.Loops.Roots.{roots-start, all-turn, all_end}
use Rattle.polynomial.proofs.vanishing_above.Goals as goal

pub loop-at-init : goal.loop-at-init
loop-at-init c = let o = c.args.out.now in
    (omega arith, ap (λ (p : List ℕ). product byte_ops p (ascending (c.args.f + 1) (length o - 1))) (roots-start o (length o - 1) (omega arith)))

pub loop-at-preserved : goal.loop-at-preserved
loop-at-preserved c = let d = c.add_root in let o = c.args.out.now in (
  omega arith,
  all-turn c.loop-at.out d.new.p _ c.loop-at.at c.loop-at.g _ (omega arith) (omega (arith, length-set o (length o - 1) 1)) refl d.ensures c.loop-at.invariant.1,
)

pub returns : goal.returns
returns c =
    all_end c.loop-at.out _ c.loop-at.at c.loop-at.g (omega arith) c.loop-at.invariant.1
