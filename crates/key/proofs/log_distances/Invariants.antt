-- The loop's invariant: the power of s times the product of the distances still to come is that of all (`distances-turn`).
use Rattle.std.proofs.Common.{drop, ◌*◌, ◌≡◌, ◌≤◌}
use Rattle.algebra.specs.Polynomial.Ratios.{distances}
use Rattle.bytefield.specs.Product.{◌⊗◌, byte_ops}
use Rattle.bytefield.specs.Powers.{power}
use Rattle.key.proofs.log_distances.Given as goal

abbrev pub invariant-loop-g : goal.invariant-loop-g
invariant-loop-g l = (l.s ≤ 254 * l.g-index) × (power l.s ⊗ distances byte_ops l.f (drop l.g-index l.gs) ≡ distances byte_ops l.f l.gs)
