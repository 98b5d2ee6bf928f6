-- The loop's invariant: the first i values are their slopes and the others as they were (`slopes-turn`).
use Rattle.std.proofs.Common.{◌≡◌}
use Rattle.lists.specs.Blend.{blend}
use Rattle.algebra.specs.Polynomial.{slopes}
use Rattle.bytefield.specs.Product.{byte_ops}
use Rattle.bytefield.specs.Inverse.{inverse}
use Rattle.polynomial.proofs.slopes.Given as goal

abbrev pub invariant-loop-i : goal.invariant-loop-i
invariant-loop-i l = l.zs ≡ blend l.i (slopes byte_ops inverse l.f l.y l.gs l.initial.zs) l.initial.zs
