-- Lists compared.
--
-- eq_list a b     are the two lists the same?
use Rattle.std.specs.Prelude.{ℕ, Bool, true, false, ◌&&◌, List, [], ◌∷◌, eqb}
pub mod Laws

unfoldable pub eq_list : List ℕ → List ℕ → Bool
eq_list [] [] = true
eq_list [] (y ∷ b) = false
eq_list (x ∷ a) [] = false
eq_list (x ∷ a) (y ∷ b) = eqb x y && eq_list a b
