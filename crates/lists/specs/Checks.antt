-- Checks in a row (document 01, Order: a call is refused by the first check that fails).
--
-- all_true bs              all checks of the row pass
use Rattle.std.specs.Prelude.{Bool, true, ◌&&◌, List, [], ◌∷◌}
pub mod Laws

abbrev pub all_true : List Bool → Bool
all_true [] = true
all_true (b ∷ bs) = b && all_true bs
