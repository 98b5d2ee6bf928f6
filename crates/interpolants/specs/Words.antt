-- Rows of bytes that stand one after another, as words that hold them side by side.
--
--   side_by_side rows n m j    the word whose byte i is entry j of row i, of n rows of m bytes; its other bytes are zero
--   words_of rows n m         the m words
use Rattle.std.specs.Prelude.{List, map, ℕ, ◌+◌, ◌*◌, get_or}
use Rattle.polynomial.specs.Interpolant.{ascending}
use Rattle.packed.specs.Share.{placed}
use Rattle.interpolants.specs.Sums.{total}

abbrev pub side_by_side : List ℕ → ℕ → ℕ → ℕ → ℕ
side_by_side rows n m j = total (λ i. placed i (get_or rows (i * m + j) 0)) n

unfoldable pub words_of : List ℕ → ℕ → ℕ → List ℕ
words_of rows n m = map (side_by_side rows n m) (ascending 0 m)
