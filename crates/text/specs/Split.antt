-- Text parted by a byte: lines by line feeds, fields by tabs.
--
-- tab, line_feed    the bytes that part fields and end lines (document 01, Key listing)
-- first c s        what stands before the first c of s, all of s where it has none
-- rest c s         the pieces behind the first c of s, parted by the other c
-- split c s        all pieces of s parted by c: one more than s has bytes c
use Rattle.std.specs.Prelude.{ℕ, Bool, true, false, List, [], ◌∷◌, eqb}
pub mod Laws

abbrev pub tab : ℕ
tab = 9

abbrev pub line_feed : ℕ
line_feed = 10

-- the piece before a parting byte is empty; any other byte x goes to the front of the piece f
abbrev pub first_of : Bool → ℕ → List ℕ → List ℕ
first_of true x f = []
first_of false x f = x ∷ f

-- behind a parting byte a new piece f begins
abbrev pub rest_of : Bool → List ℕ → List (List ℕ) → List (List ℕ)
rest_of true f r = f ∷ r
rest_of false f r = r

unfoldable pub first : ℕ → List ℕ → List ℕ
first c [] = []
first c (x ∷ s) = first_of (eqb x c) x (first c s)

unfoldable pub rest : ℕ → List ℕ → List (List ℕ)
unfolding first
rest c [] = []
rest c (x ∷ s) = rest_of (eqb x c) (first c s) (rest c s)

abbrev pub split : ℕ → List ℕ → List (List ℕ)
split c s = first c s ∷ rest c s
