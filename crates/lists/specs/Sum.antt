-- The sum of lists by xor (document 01, Fields: "Addition is xor"; Parties: "party c sums the leaves").
--
-- xor_list s t     the sum, element by element; it has the length of the longer list, and the shorter counts as filled up with zeros
-- xor_at d at s    d with s added to its part from index at on
use Rattle.std.specs.Prelude.{ℕ, List, [], ◌∷◌, length}
use Rattle.lists.specs.Xor.{◌⊕◌}
use Rattle.lists.specs.Part.{part, put_at}
pub mod Laws

unfoldable pub xor_list : List ℕ → List ℕ → List ℕ
xor_list [] t = t
xor_list (x ∷ s) [] = x ∷ s
xor_list (x ∷ s) (y ∷ t) = (x ⊕ y) ∷ xor_list s t

unfoldable pub xor_at : List ℕ → ℕ → List ℕ → List ℕ
xor_at d at s = put_at d at (xor_list (part d at (length s)) s)
