-- Points as words, and the table by which the products with one point are read.
--
--   word_of x             the four bytes of the point x as the low bytes of a word
--   by_x, by_z             the points X and Z: 'b0 + b1·X + (b2 + b3·X)·Z'
--   multiples_of b        the multiples by bytes of b, of b·X, of b·Z and of b·X·Z
--   Lower a              the three upper bytes of a are zero: a stands for a byte
--   Read t at c w        w is the product of the byte c and the point whose multiples stand in t from place at on
--   Multiplies t a b     the table t serves for the product of the four bytes a and the point b
use Rattle.std.specs.Prelude.{◌≡◌, ◌⊎◌, List, [], ◌∷◌, ◌++◌, ℕ, get_or, take, drop}
use Rattle.tower.specs.Field.{Point, point, bytes_of}
use Rattle.packed.specs.Word.{word}
use Rattle.packed.specs.Table.{multiples}
use Rattle.exchange.specs.Reading.{◌⊠◌}
use Rattle.points.specs.Written.{scalar}
pub mod Laws

unfoldable pub word_of : Point → ℕ
word_of x = word (bytes_of x)

unfoldable pub by_x : Point
by_x = point (0 ∷ 1 ∷ 0 ∷ 0 ∷ [])

unfoldable pub by_z : Point
by_z = point (0 ∷ 0 ∷ 1 ∷ 0 ∷ [])

unfoldable pub multiples_of : Point → List ℕ
multiples_of b =
    multiples (word_of b) ++ (multiples (word_of (b ⊠ by_x)) ++ (multiples (word_of (b ⊠ by_z)) ++ multiples (word_of (b ⊠ (by_x ⊠ by_z)))))

abbrev pub Lower : List ℕ → Type 0
Lower a = (get_or a 1 0 ≡ 0) × (get_or a 2 0 ≡ 0) × (get_or a 3 0 ≡ 0)

abbrev pub Read : List ℕ → ℕ → ℕ → ℕ → Type 0
Read t at c w = (x : Point) → take 32 (drop at t) ≡ multiples (word_of x) → w ≡ word_of (scalar c ⊠ x)

abbrev pub Multiplies : List ℕ → List ℕ → Point → Type 0
Multiplies t a b = (Lower a × (take 32 t ≡ multiples (word_of b))) ⊎ (t ≡ multiples_of b)
