-- The limits of the parameters.
--
-- limits p           'length m 2 to 255; dimension k 1 to m−1; weight w 1 to m; axes D 1 to 8; positions t 1 to 8', one test each
-- within_limits p     all of them hold
-- Within p           the same as facts
use Rattle.std.specs.Prelude.{Bool, List, [], ◌∷◌, ◌≤◌, ◌<◌, leb, ltb}
use Rattle.lists.specs.Checks.{all_true}
use Rattle.parameters.specs.declared.Parameters.{Parameters}
pub mod Laws

unfoldable pub limits : Parameters → List Bool
limits p =
    leb 2 p.m ∷ leb p.m 255 ∷ leb 1 p.k ∷ ltb p.k p.m ∷ leb 1 p.w ∷ leb p.w p.m ∷ leb 1 p.axes ∷ leb p.axes 8
    ∷ leb 1 p.t ∷ leb p.t 8 ∷ []

unfoldable pub within_limits : Parameters → Bool
within_limits p = all_true (limits p)

pub record Within (p : Parameters) : Type 0 where
  pub m-least : 2 ≤ p.m
  pub m-most : p.m ≤ 255
  pub k-least : 1 ≤ p.k
  pub k-most : p.k < p.m
  pub w-least : 1 ≤ p.w
  pub w-most : p.w ≤ p.m
  pub axes-least : 1 ≤ p.axes
  pub axes-most : p.axes ≤ 8
  pub t-least : 1 ≤ p.t
  pub t-most : p.t ≤ 8
