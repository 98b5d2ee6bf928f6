-- What the functions that make Q and P ask of a vector.
--
--   Light w x     x has fewer than 256 entries, w is at most their number, and at most w of them are nonzero
use Rattle.std.specs.Prelude.{ℕ, ◌≤◌, ◌<◌, List, length}
use Rattle.relation.specs.Key.{weight_of}

pub record Light (w : ℕ) (x : List ℕ) : Type 0 where
  pub light : weight_of x ≤ w
  pub fits : w ≤ length x
  pub short : length x < 256
