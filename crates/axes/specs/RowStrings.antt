-- The strings of layers 6 and 7, from the rows of all axes one after another.
--
-- row_string p pre rows j           layer 6's string of axis j, from the rows
-- rows_string hash p pre rows       layer 7's string, from the rows
-- ResponseAsked p rows             the rows of all axes
use Rattle.std.specs.Prelude.{◌≡◌, List, ◌∷◌, ℕ, ◌+◌, ◌*◌, length}
use Rattle.lists.specs.Part.{part}
use Rattle.parameters.specs.declared.Parameters.{Parameters}
use Rattle.parameters.specs.Limits.{Within}
use Rattle.layout.specs.Layout.{axis_length, rows_length}
use Rattle.exchange.specs.Strings.{string, string7}

abbrev pub row_string : Parameters → List ℕ → List ℕ → ℕ → List ℕ
row_string p prefix rows j = string 6 prefix ((j + 1) ∷ part rows (j * axis_length p) (axis_length p))

abbrev pub rows_string : (List ℕ → ℕ → List ℕ) → Parameters → List ℕ → List ℕ → List ℕ
rows_string hash p prefix rows = string7 prefix (λ j. hash (row_string p prefix rows j) 32) p.axes

pub record ResponseAsked (p : Parameters) (rows : List ℕ) : Type 0 where
  pub within : Within p
  pub sized_rows : length rows ≡ rows_length p
