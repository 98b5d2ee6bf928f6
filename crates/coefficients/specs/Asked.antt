-- What the functions of this crate ask for.
--
--   RowsAsked p n c shares matrix y rows   n shares within the limits, up to fifteen, one after another, with the key and room for c rows of m bytes
--   GatherAsked p n shares from words             up to eight shares within the limits, with words for bytes from place `from` on
--   VectorsAsked p n shares matrix y words        the same, with the key and words for x
use Rattle.std.specs.Prelude.{◌≡◌, List, ℕ, ◌*◌, ◌≤◌, ◌+◌, length}
use Rattle.parameters.specs.declared.Parameters.{Parameters}
use Rattle.parameters.specs.Limits.{Within}
use Rattle.layout.specs.Layout.{share_length, y_length, matrix_length}

pub record RowsAsked (p : Parameters) (n c : ℕ) (shares matrix y rows : List ℕ) : Type 0 where
  pub within : Within p
  pub few : n ≤ 15
  pub sized-shares : length shares ≡ n * share_length p
  pub sized-matrix : length matrix ≡ matrix_length p
  pub sized-y : length y ≡ y_length p
  pub sized_rows : length rows ≡ c * p.m

pub record GatherAsked (p : Parameters) (n : ℕ) (shares : List ℕ) (from : ℕ) (words : List ℕ) : Type 0 where
  pub within : Within p
  pub few : n ≤ 8
  pub sized-shares : length shares ≡ n * share_length p
  pub room : from + length words ≤ share_length p

pub record VectorsAsked (p : Parameters) (n : ℕ) (shares matrix y words : List ℕ) : Type 0 where
  pub within : Within p
  pub few : n ≤ 8
  pub sized-shares : length shares ≡ n * share_length p
  pub sized-matrix : length matrix ≡ matrix_length p
  pub sized-y : length y ≡ y_length p
  pub sized-words : length words ≡ p.m
