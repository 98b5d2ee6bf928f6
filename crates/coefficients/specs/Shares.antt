-- Shares that stand one after another, and the words that hold them side by side.
--
--   share_of p shares i                        share i
--   Gathered size shares from count i words   the first i shares, of size bytes each, are in the words: byte j of the words is the count bytes
--                                             of share j from place `from` on, and the other bytes are zero
use Rattle.std.specs.Prelude.{◌≡◌, List, ℕ, ◌*◌, ◌≤◌, ◌<◌, length, replicate}
use Rattle.lists.specs.Part.{part}
use Rattle.parameters.specs.declared.Parameters.{Parameters}
use Rattle.layout.specs.Layout.{share_length}
use Rattle.exchange.specs.Reading.{bytes_at}
use Rattle.packed.specs.Share.{share}
pub mod Laws

abbrev pub share_of : Parameters → List ℕ → ℕ → List ℕ
share_of p shares i = part shares (i * share_length p) (share_length p)

pub record Gathered (size : ℕ) (shares : List ℕ) (from count i : ℕ) (words : List ℕ) : Type 0 where
  pub sized : length words ≡ count
  pub done : (j : ℕ) → j < i → share j words ≡ bytes_at (part shares (j * size) size) from count
  pub rest : (j : ℕ) → i ≤ j → share j words ≡ replicate count 0
