-- The loop's invariant: the first i values are divided and the others as they were (`ratios-turn`).
use Rattle.std.proofs.Common.{◌≡◌}
use Rattle.lists.specs.Blend.{blend}
use Rattle.algebra.specs.Polynomial.Ratios.{ratios}
use Rattle.bytefield.specs.Product.{byte_ops}
use Rattle.bytefield.specs.Inverse.{inverse}
use Rattle.key.proofs.ratios.Given as goal

abbrev pub invariant-loop-i : goal.invariant-loop-i
invariant-loop-i l = l.ys ≡ blend l.i (ratios byte_ops inverse l.gs l.fs l.initial.ys) l.initial.ys
