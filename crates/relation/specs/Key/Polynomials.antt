-- The points of E, for a vector x of bytes.
--
--   inside w x, outside w x      the interpolation points of E, and the others
use Rattle.std.specs.Prelude.{ℕ, List, length}
use Rattle.algebra.specs.Marks.{pick, leave}
use Rattle.polynomial.specs.Interpolant.{interpolation_points}
use Rattle.relation.specs.Key.{positions}

abbrev pub inside : ℕ → List ℕ → List ℕ
inside w x = pick (positions w x) (interpolation_points (length x))

abbrev pub outside : ℕ → List ℕ → List ℕ
outside w x = leave (positions w x) (interpolation_points (length x))
