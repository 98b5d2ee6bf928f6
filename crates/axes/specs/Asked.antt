-- What the functions of this crate ask of their slices.
--
-- RowsAsked          all that the rows of all axes take: the sums of the work area, message 2, the key, α and β of the hidden leaf, room for the rows
-- SomeAsked          some of the sums, message 2 and the key, and room for their blocks
-- EvaluateAsked      the same of all sums
-- AllAsked           the sums, α and β of the hidden leaf, and room for the rows of all axes
-- SumsAsked          the sums with their blocks, α̂ and β̂
-- TotalAsked         the same with α and β of the hidden leaf, and room for the row of the sum of all disclosed leaves
-- RowAsked           the share, its block, α̂ and β̂
use Rattle.std.specs.Prelude.{◌≡◌, List, ℕ, ◌*◌, ◌≤◌, length}
use Rattle.parameters.specs.declared.Parameters.{Parameters}
use Rattle.parameters.specs.Limits.{Within}
use Rattle.layout.specs.Layout.{sums_length, blocks_length, values_length, row_length, share_length, message2_length, rows_length, y_length, matrix_length}

pub record RowsAsked (p : Parameters) (sums m2 matrix y hidden rows : List ℕ) : Type 0 where
  pub within : Within p
  pub sized-parts : length sums ≡ sums_length p
  pub sized-m2 : length m2 ≡ message2_length p
  pub sized-matrix : length matrix ≡ matrix_length p
  pub sized-y : length y ≡ y_length p
  pub sized-hidden : length hidden ≡ values_length p
  pub sized_rows : length rows ≡ rows_length p

pub record SomeAsked (p : Parameters) (n : ℕ) (sums m2 matrix y blocks : List ℕ) : Type 0 where
  pub within : Within p
  pub few : n ≤ 9
  pub sized-parts : length sums ≡ n * share_length p
  pub sized-m2 : length m2 ≡ message2_length p
  pub sized-matrix : length matrix ≡ matrix_length p
  pub sized-y : length y ≡ y_length p
  pub sized-blocks : length blocks ≡ n * row_length p

pub record EvaluateAsked (p : Parameters) (sums m2 matrix y blocks : List ℕ) : Type 0 where
  pub within : Within p
  pub sized-parts : length sums ≡ sums_length p
  pub sized-m2 : length m2 ≡ message2_length p
  pub sized-matrix : length matrix ≡ matrix_length p
  pub sized-y : length y ≡ y_length p
  pub sized-blocks : length blocks ≡ blocks_length p

pub record AllAsked (p : Parameters) (sums hidden rows : List ℕ) : Type 0 where
  pub within : Within p
  pub sized-parts : length sums ≡ sums_length p
  pub sized-hidden : length hidden ≡ values_length p
  pub sized_rows : length rows ≡ rows_length p

pub record SumsAsked (p : Parameters) (sums blocks hats : List ℕ) : Type 0 where
  pub within : Within p
  pub sized-parts : length sums ≡ sums_length p
  pub sized-blocks : length blocks ≡ blocks_length p
  pub sized-hats : length hats ≡ values_length p

pub record TotalAsked (p : Parameters) (sums blocks hidden hats total : List ℕ) : Type 0 where
  pub of : SumsAsked p sums blocks hats
  pub sized-hidden : length hidden ≡ values_length p
  pub sized-total : length total ≡ row_length p

pub record RowAsked (p : Parameters) (s block hats : List ℕ) : Type 0 where
  pub within : Within p
  pub sized-s : length s ≡ share_length p
  pub sized-block : length block ≡ row_length p
  pub sized-hats : length hats ≡ values_length p
