-- The laws of what an opening gives.
--
-- opened-state         the state of a disclosed leaf
-- row_opened           row j is found at its place
-- rows-string          layer 7's string, from the rows
use Rattle.std.specs.Prelude.{◌≡◌, ℕ, ◌+◌, ◌*◌, ◌<◌, length}
use Rattle.std.proofs.Math.Path.{ap}
use mathlib.Core.List.{List, ◌∷◌}
use Rattle.std.proofs.Common.{arith}
use Rattle.shake256.specs.Fips.{SHAKE256}
use Rattle.lists.specs.Part.{part}
use Rattle.parameters.specs.declared.Parameters.{Parameters}
use Rattle.layout.specs.Layout.{side, leaves, row_length, axis_length, message5_length}
use Rattle.exchange.proofs.Sequences.Laws.{joined-ext, length-joined, part-joined}
use Rattle.exchange.specs.Strings.{string, string6, string7}
use Rattle.exchange.specs.Values.{Key}
use Rattle.exchange.specs.Parties.{announced_bytes, axis_string}
use Rattle.exchange.proofs.Parties.Laws.{length-announced_bytes}
use Rattle.exchange.specs.Opening.{Exchange, opened_state, announced, response_string}
use Rattle.leaves.specs.States.{state_at}
use Rattle.leaves.specs.States.Seeds.{opened-states}
use Rattle.axes.specs.RowStrings.{row_string, rows_string}
use Rattle.reader.proofs.Laws.Message5.{aux-inside}
use Rattle.openings.specs.Opened.{opened_states, opened_row, opened_rows}

pub opened-state : (p : Parameters) (e : Exchange) → e.leaf < leaves p → length e.message5 ≡ message5_length p e.leaf
    → (i : ℕ) → i < leaves p → (i ≡ e.leaf → ⊥) → state_at (opened_states p e) i ≡ opened_state SHAKE256 p e i
unfolding opened_states
opened-state p e below long i h other =
    let k = aux-inside p e.leaf e.message5 long in opened-states p e below (omega arith) i h other

module _ (p : Parameters) (e : Exchange) (key : Key) where
  length-opened_row : (j : ℕ) → length (opened_row p e key j) ≡ axis_length p
  unfolding opened_row
  length-opened_row j =
      length-joined (announced_bytes p (announced SHAKE256 p e key j)) (side p) (row_length p) (λ c h. length-announced_bytes p _ c)

  pub row_opened : (j : ℕ) → j < p.axes → part (opened_rows p e key) (j * axis_length p) (axis_length p) ≡ opened_row p e key j
  unfolding opened_rows
  row_opened j h = part-joined (opened_row p e key) (axis_length p) p.axes (λ j h. length-opened_row j) j h

  pub rows-string : rows_string SHAKE256 p e.prefix (opened_rows p e key) ≡ response_string SHAKE256 p e key
  unfolding response_string string7 opened_row axis_string string6
  rows-string =
      ap (string 7 e.prefix)
      (joined-ext (λ j. SHAKE256 (row_string p e.prefix (opened_rows p e key) j) 32) (λ j. SHAKE256 (axis_string p e.prefix j (announced SHAKE256 p e key j)) 32) p.axes
      (λ j h. ap (λ (s : List ℕ). SHAKE256 s 32) (ap (λ (r : List ℕ). string 6 e.prefix ((j + 1) ∷ r)) (row_opened j h))))
