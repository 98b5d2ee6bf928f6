-- What the functions of this crate ask of their arguments.
--
-- ShareAsked       a share, a position below t, a table of multiples, and room for an announcement
-- SharesAsked      n shares, their values at a position, and room for n announcements
-- PointAsked       n shares with the coefficients of each S and of F, and room for the values
-- EachAsked        n shares with the coefficients of each S and of F, message 2, and room for the announcements
use Rattle.std.specs.Prelude.{◌≡◌, List, ℕ, ◌+◌, ◌*◌, ◌≤◌, ◌<◌, length}
use Rattle.parameters.specs.declared.Parameters.{Parameters}
use Rattle.parameters.specs.Limits.{Within}
use Rattle.layout.specs.Layout.{share_length, message2_length, row_length}

pub record ShareAsked (p : Parameters) (s : List ℕ) (l : ℕ) (table out : List ℕ) : Type 0 where
  pub within : Within p
  pub position : l < p.t
  pub sized-s : length s ≡ share_length p
  pub sized-table : 128 ≤ length table
  pub sized-out : length out ≡ row_length p

pub record SharesAsked (p : Parameters) (n : ℕ) (shares : List ℕ) (l : ℕ) (words out : List ℕ) : Type 0 where
  pub within : Within p
  pub few : n ≤ 15
  pub position : l < p.t
  pub sized-shares : length shares ≡ n * share_length p
  pub sized-words : length words ≡ 3 * n + 1
  pub sized-out : length out ≡ n * row_length p

pub record PointAsked (p : Parameters) (n : ℕ) (shares rows words : List ℕ) : Type 0 where
  pub within : Within p
  pub few : n ≤ 15
  pub sized-shares : length shares ≡ n * share_length p
  pub sized_rows : length rows ≡ (n + 1) * p.m
  pub sized-words : length words ≡ 3 * n + 1

pub record EachAsked (p : Parameters) (n : ℕ) (shares rows message2 out : List ℕ) : Type 0 where
  pub within : Within p
  pub few : n ≤ 15
  pub sized-shares : length shares ≡ n * share_length p
  pub sized_rows : length rows ≡ (n + 1) * p.m
  pub sized-message2 : length message2 ≡ message2_length p
  pub sized-out : length out ≡ n * row_length p
