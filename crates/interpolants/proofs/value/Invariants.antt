-- The loop's invariant: v is the value at f of the coefficients from i on (`horner-turn`).
use Rattle.std.proofs.Common.{drop, ◌≡◌}
use Rattle.algebra.specs.Polynomial.{eval}
use Rattle.bytefield.specs.Product.{byte_ops}
use Rattle.interpolants.proofs.value.Given as goal

abbrev pub invariant-loop-i : goal.invariant-loop-i
invariant-loop-i l = l.v ≡ eval byte_ops (drop l.i l.g) l.f
