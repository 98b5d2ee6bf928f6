-- A field compared with a word, byte by byte.
--
-- word-accepts     it is accepted exactly when it is the word
use Rattle.std.specs.Prelude.{◌≡◌, ℕ, ◌+◌, ◌≤◌, ◌<◌, Bool, cond, ◌&&◌, ltb, length, drop, get_or}
use Rattle.std.proofs.Common.{sym, arith, drop_of_length-le, drop-cons}
use Rattle.std.proofs.Math.Numerals.{add-one}
use Rattle.std.proofs.Math.Decide.{dec_lt, ℕ_discrete}
use Rattle.std.proofs.Math.Bool.{true, false, and-false}
use mathlib.Core.List.{List, [], ◌∷◌}
use Rattle.std.proofs.Math.Dec.{eqb}
use borrow.Author.Tests.{lt-ltb, le-ltb, eq-eqb, ne_eqb}
use Rattle.lists.specs.Equal.{eq_list}
use Rattle.text.specs.Fold.{fold}
use Rattle.text.specs.declared.word.WordScan.{WordScan}
use Rattle.text.specs.Scanner.Word.{word_start, word_step, word_accepts}

-- n bytes have agreed; b says that none differed
abbrev state : ℕ → Bool → WordScan
state n b = record { at = n; sound = b }

module _ (w : List ℕ) where
  broken : (f : List ℕ) (n : ℕ) → word_accepts w (fold (word_step w) (state n false) f) ≡ false
  unfolding word_step word_accepts
  broken [] n = and-false (eqb n (length w))
  broken (x ∷ f) n = go (ltb n (length w) && eqb (get_or w n 0) x) (broken f (n + 1)) (broken f n)
    where
      go : (t : Bool) → word_accepts w (fold (word_step w) (state (n + 1) false) f) ≡ false
          → word_accepts w (fold (word_step w) (state n false) f) ≡ false
          → word_accepts w (fold (word_step w) (cond t (state (n + 1) false) (state n false)) f) ≡ false
      go true p q = p
      go false p q = q

  ended : (n : ℕ) → n ≤ length w → Dec (n < length w) → word_accepts w (state n true) ≡ eq_list [] (drop n w)
  unfolding word_accepts eq_list
  ended n h (yes p) = rw (drop-cons w n 0 p, ne_eqb n (length w) (omega arith))
  ended n h (no p) = rw (drop_of_length-le w {i = n} (omega arith), eq-eqb n (length w) (omega arith))

  -- one byte x more, given what the rest f of the field says from there
  more : (x : ℕ) (f : List ℕ) (n : ℕ) → n ≤ length w
      → (n < length w → word_accepts w (fold (word_step w) (state (n + 1) true) f) ≡ eq_list f (drop (n + 1) w))
      → Dec (n < length w) → Dec (get_or w n 0 ≡ x)
      → word_accepts w (fold (word_step w) (word_step w (state n true) x) f) ≡ eq_list (x ∷ f) (drop n w)
  unfolding word_step eq_list
  more x f n h ih (yes p) (yes q) =
      rw (drop-cons w n 0 p, lt-ltb n (length w) p, eq-eqb (get_or w n 0) x q, eq-eqb x (get_or w n 0) (sym q), ← add-one n) (ih p)
  more x f n h ih (yes p) (no q) =
      rw (drop-cons w n 0 p, lt-ltb n (length w) p, ne_eqb (get_or w n 0) x q, ne_eqb x (get_or w n 0) (λ e. q (sym e))) (broken f n)
  more x f n h ih (no p) d = rw (drop_of_length-le w {i = n} (omega arith), le-ltb n (length w) (omega arith)) (broken f n)

  word-from : (f : List ℕ) (n : ℕ) → n ≤ length w → word_accepts w (fold (word_step w) (state n true) f) ≡ eq_list f (drop n w)
  word-from [] n h = ended n h (dec_lt n (length w))
  word-from (x ∷ f) n h = more x f n h (λ p. word-from f (n + 1) (omega arith)) (dec_lt n (length w)) (ℕ_discrete (get_or w n 0) x)

  pub word-accepts : (f : List ℕ) → word_accepts w (fold (word_step w) word_start f) ≡ eq_list f w
  word-accepts f = word-from f 0 (omega arith)
