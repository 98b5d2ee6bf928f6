-- What an opening gives, in one list: the states of all leaves, the rows of all axes, and the hidden leaf's commitment as message 5 gives it.
--
-- states_in p o, rows_in p o  the states and the rows
-- hidden_commitment p o      the hidden leaf's commitment
use Rattle.std.specs.Prelude.{List, ℕ, take, drop}
use Rattle.lists.specs.Part.{part}
use Rattle.parameters.specs.declared.Parameters.{Parameters}
use Rattle.layout.specs.Layout.{rows_length, states_length, rows_end}
pub mod Laws

unfoldable pub states_in : Parameters → List ℕ → List ℕ
states_in p o = take (states_length p) o

unfoldable pub rows_in : Parameters → List ℕ → List ℕ
rows_in p o = part o (states_length p) (rows_length p)

unfoldable pub hidden_commitment : Parameters → List ℕ → List ℕ
hidden_commitment p o = drop (rows_end p) o
