-- A list on its way to another: what a loop that rewrites a slice in place has come to.
--
-- blend i s l     the first i elements of s, and from there on those of l
use Rattle.std.specs.Prelude.{ℕ, zero, suc, List, [], ◌∷◌}
pub mod Laws

unfoldable pub blend : ℕ → List ℕ → List ℕ → List ℕ
blend zero s l = l
blend (suc i) [] l = []
blend (suc i) (a ∷ s) [] = []
blend (suc i) (a ∷ s) (b ∷ l) = a ∷ blend i s l
