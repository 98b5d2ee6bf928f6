-- The loop's invariant: the first i places are the interpolation points (`points-turn`).
use Rattle.std.proofs.Common.{◌≡◌}
use Rattle.lists.specs.Blend.{blend}
use Rattle.polynomial.specs.Interpolant.{interpolation_points}
use Rattle.polynomial.proofs.points.Given as goal

abbrev pub invariant-loop-i : goal.invariant-loop-i
invariant-loop-i l = l.f-items ≡ blend l.i (interpolation_points 255) l.initial.f-items
