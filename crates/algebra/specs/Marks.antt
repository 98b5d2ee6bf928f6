-- A list of marks picks some elements of a list and leaves the others.
--
--   pick bs xs       the elements of xs that are marked
--   leave bs xs      the elements of xs that are not marked; an element past the marks is not marked
--   marked bs        how many marks are set
use Rattle.std.specs.Prelude.{Bool, true, false, List, [], ◌∷◌, ℕ, suc}
pub mod Laws

unfoldable pub pick : {A : Type 0} → List Bool → List A → List A
pick [] xs = []
pick (b ∷ bs) [] = []
pick (true ∷ bs) (x ∷ xs) = x ∷ pick bs xs
pick (false ∷ bs) (x ∷ xs) = pick bs xs

unfoldable pub leave : {A : Type 0} → List Bool → List A → List A
leave [] xs = xs
leave (b ∷ bs) [] = []
leave (true ∷ bs) (x ∷ xs) = leave bs xs
leave (false ∷ bs) (x ∷ xs) = x ∷ leave bs xs

unfoldable pub marked : List Bool → ℕ
marked [] = 0
marked (true ∷ bs) = suc (marked bs)
marked (false ∷ bs) = marked bs
