-- The loop's invariant: the values are those of the coefficients before place `at`, the power is r to their number, and n + 1 products were made
-- for each. A turn adds one coefficient at the top of each polynomial, which adds its product with the power. The point r is known by the table of
-- its multiples.
use Rattle.std.proofs.Common.{◌*◌, ◌+◌, ◌-◌, ◌≡◌}
use Rattle.tower.specs.Field.{Point, bytes_of}
use Rattle.points.specs.Multiples.{multiples_of}
use Rattle.values.specs.Evaluation.{point_power, values_of}
use Rattle.values.proofs.evaluation.values_at.Given as goal

abbrev pub invariant-loop-at : goal.invariant-loop-at
invariant-loop-at l =
    ((r : Point) → l.table ≡ multiples_of r
    → (l.values ≡ values_of l.s l.n l.stride l.from (l.at - l.from) r) × (l.power.point ≡ bytes_of (point_power r (l.at - l.from))))
    × (l.power.made ≡ (l.at - l.from) * (l.n + 1))
