-- What the functions ask of their slices and numbers.
--
-- Rows p rows others       parameters within their limits, and the rows of all axes of two openings
-- Both p opened others     parameters within their limits, and what two openings give
-- Committed                leaf i is one of the leaves; what an opening gives, and room for a commitment
-- Placed                   what two openings give, the leaf u is one of the leaves, and room for the states
-- Output                   what two openings give, aux where leaf n−1 is disclosed, and room for the output
-- Opening p o              an opening that hides a leaf below n
-- Openings                 two openings with different hidden leaves
use Rattle.std.specs.Prelude.{◌≡◌, false, List, ℕ, ◌≤◌, ◌<◌, length}
use Rattle.parameters.specs.declared.Parameters.{Parameters}
use Rattle.parameters.specs.Limits.{Within}
use Rattle.layout.specs.Layout.{leaves, is_last, aux_length, output_length, rows_length, states_length, opened_length}
use Rattle.extractor.specs.declared.opened.Opened.{Opened}

pub record Rows (p : Parameters) (rows others : List ℕ) : Type 0 where
  pub within : Within p
  pub first : rows_length p ≤ length rows
  pub second : rows_length p ≤ length others

pub record Both (p : Parameters) (opened others : List ℕ) : Type 0 where
  pub within : Within p
  pub first : length opened ≡ opened_length p
  pub second : length others ≡ opened_length p

pub record Committed (p : Parameters) (i : ℕ) (opened out : List ℕ) : Type 0 where
  pub within : Within p
  pub below : i < leaves p
  pub size : length opened ≡ opened_length p
  pub room : length out ≡ 32

pub record Placed (p : Parameters) (u : ℕ) (opened others out : List ℕ) : Type 0 where
  pub both : Both p opened others
  pub below : u < leaves p
  pub room : states_length p ≤ length out

pub record Opening (p : Parameters) (o : Opened) : Type 0 where
  pub below : o.hidden < leaves p
  pub aux-size : is_last p o.hidden ≡ false → length o.aux.now ≡ aux_length p
  pub size : length o.made.now ≡ opened_length p

pub record Openings (p : Parameters) (first second : Opened) : Type 0 where
  pub within : Within p
  pub one : Opening p first
  pub two : Opening p second
  pub other : first.hidden ≡ second.hidden → ⊥

pub record Output (p : Parameters) (first second : Opened) (out : List ℕ) : Type 0 where
  pub openings : Openings p first second
  pub room : length out ≡ output_length p
