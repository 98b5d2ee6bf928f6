-- The loop's invariant: the coefficients below i - 1 are those of y + (X + f)·q and the others as they were (`expand-turn`); the last one stays.
use Rattle.std.proofs.Common.{◌-◌, ◌≡◌}
use Rattle.lists.specs.Blend.{blend}
use Rattle.algebra.specs.Polynomial.{expand}
use Rattle.bytefield.specs.Product.{byte_ops}
use Rattle.polynomial.proofs.expand.Given as goal

abbrev pub invariant-loop-i : goal.invariant-loop-i
invariant-loop-i l = l.p ≡ blend (l.i - 1) (expand byte_ops l.f l.initial.p) l.initial.p
