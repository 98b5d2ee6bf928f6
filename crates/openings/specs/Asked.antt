-- What the functions ask of their slices and numbers.
--
-- OpeningAsked p s leaf m5 matrix y work o   parameters within their limits, a statement that reaches its prefix, a leaf below n, slices of the right lengths
-- LeavesAsked p leaf a work o        of message 5 aux a, which may be empty; work area and room for what the opening gives
-- AxesAsked p s v matrix y work o    the same with a statement, α and β in v, and the key
-- VerdictAsked p s o                 a statement, and what an opening gives
-- SumsAsked p aux st sums            aux, which may be empty, the states of all leaves, and room for the sums
use Rattle.std.specs.Prelude.{◌≡◌, List, ℕ, ◌≤◌, ◌<◌, length}
use Rattle.parameters.specs.declared.Parameters.{Parameters}
use Rattle.parameters.specs.Limits.{Within}
use Rattle.layout.specs.Layout.{leaves, values_length, aux_length, message5_length, sums_length, work_length, prefix_place, states_length, opened_length, y_length, matrix_length}

pub record OpeningAsked (p : Parameters) (s : List ℕ) (leaf : ℕ) (m5 matrix y work o : List ℕ) : Type 0 where
  pub within : Within p
  pub sized-statement : prefix_place p ≤ length s
  pub below : leaf < leaves p
  pub sized-message5 : length m5 ≡ message5_length p leaf
  pub sized-matrix : length matrix ≡ matrix_length p
  pub sized-y : length y ≡ y_length p
  pub sized-work : length work ≡ work_length p
  pub sized-opened : length o ≡ opened_length p

pub record LeavesAsked (p : Parameters) (leaf : ℕ) (aux work o : List ℕ) : Type 0 where
  pub within : Within p
  pub below : leaf < leaves p
  pub sized-aux : length aux ≤ aux_length p
  pub sized-work : length work ≡ work_length p
  pub sized-opened : length o ≡ opened_length p

pub record AxesAsked (p : Parameters) (s values matrix y work o : List ℕ) : Type 0 where
  pub within : Within p
  pub sized-statement : prefix_place p ≤ length s
  pub sized-values : length values ≡ values_length p
  pub sized-matrix : length matrix ≡ matrix_length p
  pub sized-y : length y ≡ y_length p
  pub sized-work : length work ≡ work_length p
  pub sized-opened : length o ≡ opened_length p

pub record VerdictAsked (p : Parameters) (s o : List ℕ) : Type 0 where
  pub within : Within p
  pub sized-statement : prefix_place p ≤ length s
  pub sized-opened : length o ≡ opened_length p

pub record SumsAsked (p : Parameters) (aux states sums : List ℕ) : Type 0 where
  pub within : Within p
  pub sized-aux : length aux ≤ aux_length p
  pub sized-states : length states ≡ states_length p
  pub sized-sums : length sums ≡ sums_length p
