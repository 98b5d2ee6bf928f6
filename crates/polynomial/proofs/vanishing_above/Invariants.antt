-- The loop's invariant: from place at on stands a product that the remaining factors complete to the whole one (`all-turn`).
use Rattle.std.proofs.Common.{drop, ◌+◌, ◌≡◌}
use Rattle.algebra.specs.Polynomial.{product, vanishing}
use Rattle.bytefield.specs.Product.{byte_ops}
use Rattle.polynomial.specs.Interpolant.{ascending}
use Rattle.polynomial.proofs.vanishing_above.Given as goal

abbrev pub invariant-loop-at : goal.invariant-loop-at
invariant-loop-at l =
    (l.at + l.g ≡ l.f + l.n) × (product byte_ops (drop l.at l.out) (ascending (l.g + 1) l.at) ≡ vanishing byte_ops (ascending (l.f + 1) l.n))
