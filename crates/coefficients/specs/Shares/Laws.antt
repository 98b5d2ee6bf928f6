-- The laws of shares side by side.
--
--   share-fits                     what is read of share i stands within all shares
--   gathered_none, gathered-more   no share is in words that are zero; one share more
--   gathered-all                   all shares are in the words, where a share that is not there counts as zeros
use Rattle.std.specs.Prelude.{◌≡◌, refl, List, ◌∷◌, map, ℕ, zero, suc, ◌+◌, ◌-◌, ◌*◌, ◌≤◌, ◌<◌, get_or, take, drop, replicate}
use Rattle.std.proofs.Math.Path.{sym}
use Rattle.std.proofs.Common.{ap, ap₂, ◌∙◌, le_of_eq, not-suc-le-zero, length-take, length-drop}
use Rattle.std.proofs.Math.Decide.{dec_lt, ℕ_discrete}
use Rattle.std.proofs.Math.Nat.{mul-le-mul_right}
use native.Mathlib.Omega.{arith}
use Rattle.std.proofs.Math.ListN.{length, get_or-eq_default}
use Rattle.std.proofs.lemmas.List.{length-map, length-replicate}
use Rattle.lists.specs.Part.{part}
use Rattle.lists.specs.Part.Laws.{length_part, part-part, part-fits}
use Rattle.lists.specs.Sum.{xor_list}
use Rattle.lists.specs.Sum.Laws.{xor_list-comm, xor_list-zeros, length-xor_list}
use Rattle.polynomial.specs.Bytes.Laws.{bytes-from, byte-at, bytes_take}
use Rattle.exchange.proofs.Sequences.Laws.{bytes_drop}
use Rattle.exchange.specs.Reading.{bytes_at}
use Rattle.exchange.proofs.Reading.Laws.{length-bytes_at, bytes_at-part}
use Rattle.packed.specs.Share.{share, placed}
use Rattle.packed.specs.Share.Laws.{zeros-share, share-own, share-rest}
use Rattle.coefficients.specs.Shares.{Gathered}

past_end : (s : List ℕ) (i n : ℕ) → length s ≤ i → bytes_at s i n ≡ replicate n 0
unfolding bytes_at
past_end s i zero h = refl
past_end s i (suc n) h = ap₂ ◌∷◌ (get_or-eq_default s 0 h) (past_end s (suc i) n (omega arith))

-- ---- gathering

module _ (size : ℕ) (shares : List ℕ) (from count : ℕ) where
  pub gathered_none : (words : List ℕ) → words ≡ replicate count 0 → Gathered size shares from count 0 words
  gathered_none words e = record {
    sized = ap length e ∙ length-replicate count 0;
    done = λ j h. absurd (not-suc-le-zero h);
    rest = λ j h. ap (share j) e ∙ zeros-share j count;
  }

  module _ (i : ℕ) (words x : List ℕ) (g : Gathered size shares from count i words) (e : x ≡ bytes_at (part shares (i * size) size) from count)
      (bytes : (k : ℕ) → get_or x k 0 < 256) where
    fits : length x ≡ count
    fits = ap length e ∙ length-bytes_at (part shares (i * size) size) from count

    own : share i (xor_list words (map (placed i) x)) ≡ bytes_at (part shares (i * size) size) from count
    own = rw (share-own i words x bytes, g.rest i (le_of_eq refl), xor_list-comm (replicate count 0) x) (xor_list-zeros x count (omega (arith, fits)) ∙ e)

    other : (j : ℕ) → (j ≡ i → ⊥) → share j (xor_list words (map (placed i) x)) ≡ share j words
    other j n = share-rest j i n words x (omega (arith, fits, g.sized)) bytes

    added : Gathered size shares from count (i + 1) (xor_list words (map (placed i) x))
    added = record {
      sized = length-xor_list words (map (placed i) x) (omega (arith, fits, g.sized, length-map x (placed i))) ∙ g.sized;
      done = λ j h. at j h (ℕ_discrete j i);
      rest = λ j h. other j (λ o. omega arith) ∙ g.rest j (omega arith);
    }
      where
        at : (j : ℕ) → j < i + 1 → Dec (j ≡ i) → share j (xor_list words (map (placed i) x)) ≡ bytes_at (part shares (j * size) size) from count
        at j h (yes q) = rw q own
        at j h (no q) = other j q ∙ g.done j (omega arith)

  module _ (i n : ℕ) (h : i < n) (sized : length shares ≡ n * size) (room : from + count ≤ size) where
    pub share-fits : i * size + from + count ≤ length shares
    share-fits = let f = part-fits i n size h in omega arith

    share-lent : take (i * size + from + count - (i * size + from)) (drop (i * size + from) shares)
        ≡ bytes_at (part shares (i * size) size) from count
    unfolding part
    share-lent =
        let f = part-fits i n size h in
        let l : length (part shares (i * size) size) ≡ size = length_part shares (i * size) size (omega arith) in
        let e : i * size + from + count - (i * size + from) ≡ count = omega arith in
        rw e (sym (bytes_at-part (part shares (i * size) size) from count (omega arith) ∙ part-part shares (i * size) size from count room))

    pub gathered-more : (words out : List ℕ) → Gathered size shares from count i words → ((k : ℕ) → get_or shares k 0 < 256)
        → out ≡ xor_list words (map (placed i) (take (i * size + from + count - (i * size + from)) (drop (i * size + from) shares)))
        → Gathered size shares from count (i + 1) out
    gathered-more words out g bytes e =
        let a : ℕ = i * size + from in
        let b = bytes_take (a + count - a) (drop a shares) (bytes_drop a shares (bytes-from shares bytes)) in
        rw e (added i words _ g share-lent (λ k. byte-at k (take (a + count - a) (drop a shares)) b))

  pub gathered-all : (i n : ℕ) (words : List ℕ) → n ≤ i → length shares ≡ n * size → Gathered size shares from count i words
      → (j : ℕ) → share j words ≡ bytes_at (part shares (j * size) size) from count
  unfolding part
  gathered-all i n words h l g j = at (dec_lt j i)
    where
      at : Dec (j < i) → share j words ≡ bytes_at (part shares (j * size) size) from count
      at (yes k) = g.done j k
      at (no k) =
          let q = mul-le-mul_right {m = n} {n = j} size (omega arith) in
          g.rest j (omega arith) ∙ sym (past_end _ from count (simp (length-take, length-drop) (omega arith)))
