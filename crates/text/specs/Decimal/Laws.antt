-- What a program that writes a decimal leaves, by its number of digits.
--
-- put_one, put_two, put_three      the place behind the decimal, and the list that it was written to
use Rattle.std.specs.Prelude.{◌≡◌, List, [], ◌∷◌, length, set}
use Rattle.std.proofs.Common.{sym, ap, ◌∙◌, add-one}
use Prim.Native.Nat.{ℕ, suc, ◌+◌, ◌/◌, ◌%◌, ◌≤◌, ◌<◌}
use native.Mathlib.Omega.{arith}
use Rattle.std.proofs.lemmas.List.Edits.{sets}
use borrow.Author.Tests.{lt-ltb, le-ltb}
use Rattle.lists.specs.Part.{put_at}
use Rattle.text.specs.Decimal.{decimal_text}
use Rattle.text.specs.Put.{put_at-sets}

module _ (d : List ℕ) (at n : ℕ) (room : at + 3 ≤ length d) where
  -- the decimal of n is t, and t was stored
  written : (t : List ℕ) → decimal_text n ≡ t → length t ≤ 3 → (at + length t ≡ at + length (decimal_text n)) × (sets d at t ≡ put_at d at (decimal_text n))
  written t e h = (ap (λ (s : List ℕ). at + length s) (sym e), put_at-sets d at t (omega arith) ∙ ap (put_at d at) (sym e))

  pub put_one : {a : ℕ} → a ≡ 48 + n → n < 10 → (at + 1 ≡ at + length (decimal_text n)) × (set d at a ≡ put_at d at (decimal_text n))
  unfolding decimal_text
  put_one {a} ea h = written (a ∷ []) (rw (lt-ltb n 10 h, ea)) (omega arith)

  pub put_two : {a b : ℕ} → a ≡ 48 + n / 10 → b ≡ 48 + n % 10 → 10 ≤ n → n < 100
      → (at + 2 ≡ at + length (decimal_text n)) × (set (set d at a) (at + 1) b ≡ put_at d at (decimal_text n))
  unfolding decimal_text
  put_two {a} {b} ea eb l h = rw (add-one at) (written (a ∷ b ∷ []) (rw (le-ltb n 10 l, lt-ltb n 100 h, ea, eb)) (omega arith))

  pub put_three : {a b e : ℕ} → a ≡ 48 + n / 100 → b ≡ 48 + n / 10 % 10 → e ≡ 48 + n % 10 → 100 ≤ n
      → (at + 3 ≡ at + length (decimal_text n)) × (set (set (set d at a) (at + 1) b) (at + 2) e ≡ put_at d at (decimal_text n))
  unfolding decimal_text
  put_three {a} {b} {e} ea eb ee l =
      let k : at + 2 ≡ suc (suc at) = omega arith in
      rw (add-one at, k) (written (a ∷ b ∷ e ∷ []) (rw (le-ltb n 10 (omega arith), le-ltb n 100 l, ea, eb, ee)) (omega arith))
