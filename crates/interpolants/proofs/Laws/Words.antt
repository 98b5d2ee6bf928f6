-- The laws of rows side by side.
--
--   length-words, words-at    how many words there are, and each of them
--   share-words               the shares of the words are the rows
use Rattle.std.specs.Prelude.{◌≡◌, List, ℕ, ◌+◌, ◌*◌, ◌<◌, length, get_or}
use Rattle.std.proofs.Common.{sym, ◌∙◌, arith, ext_get_or}
use Rattle.std.proofs.Math.Path.{ap}
use Rattle.std.proofs.Math.Nat.{zero-add}
use Rattle.std.proofs.Math.ListN.{length-map}
use Rattle.lists.specs.Part.{part}
use Rattle.lists.specs.Part.Laws.{length_part, get_d_part, part-fits}
use Rattle.polynomial.specs.Interpolant.{ascending}
use Rattle.polynomial.specs.Interpolant.Laws.{length-ascending, ascending-at}
use Rattle.packed.specs.Share.{byte_at, share, placed}
use Rattle.packed.specs.Share.Laws.{length-share, get_d-share, byte_at-sum, byte_at-same, byte_at-other}
use Rattle.packed.specs.Maps.{get_d-map-in}
use Rattle.interpolants.specs.Sums.{total-one, total_of}
use Rattle.interpolants.specs.Words.{side_by_side, words_of}

module _ (rows : List ℕ) (n m : ℕ) where
  pub length-words : length (words_of rows n m) ≡ m
  unfolding words_of
  length-words = length-map (ascending 0 m) (side_by_side rows n m) ∙ length-ascending 0 m

  pub words-at : (j : ℕ) → j < m → get_or (words_of rows n m) j 0 ≡ side_by_side rows n m j
  unfolding words_of
  words-at j h =
      get_d-map-in (side_by_side rows n m) (ascending 0 m) j (omega (arith, length-ascending 0 m)) ∙ ap (side_by_side rows n m) (ascending-at 0 m j h ∙ zero-add j)

  module _ (sized : length rows ≡ n * m) (bytes : (k : ℕ) → get_or rows k 0 < 256) (i : ℕ) (h : i < n) where
    byte-side_by_side : (j : ℕ) → byte_at i (side_by_side rows n m j) ≡ get_or rows (i * m + j) 0
    byte-side_by_side j =
        total_of (byte_at i) (byte_at-sum i) (λ k. placed k (get_or rows (k * m + j) 0)) n
        ∙ total-one (λ k. byte_at i (placed k (get_or rows (k * m + j) 0))) i n h (λ k l d. byte_at-other i k _ d (bytes (k * m + j)))
        ∙ byte_at-same i _ (bytes (i * m + j))

    pub share-words : share i (words_of rows n m) ≡ part rows (i * m) m
    share-words =
        let f = part-fits i n m h in
        let l : length (share i (words_of rows n m)) ≡ m = length-share i (words_of rows n m) ∙ length-words in
        ext_get_or 0 (share i (words_of rows n m)) (part rows (i * m) m) (l ∙ sym (length_part rows (i * m) m (omega arith)))
        (λ j b. let k : j < m = omega arith in
        get_d-share i (words_of rows n m) j ∙ ap (byte_at i) (words-at j k) ∙ byte-side_by_side j ∙ sym (get_d_part rows (i * m) m j k))
