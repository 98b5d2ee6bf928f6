-- A list of parts, one behind the other: read and written.
--
-- read-front       the first part
-- read_behind      what is read behind the first part
-- written_next     what is written behind a front goes on with it
-- written-five     five parts, each written behind the one before, that fill the list: it is the five of them
use Rattle.std.specs.Prelude.{◌≡◌, ℕ, ◌+◌, ◌≤◌, List, ◌++◌, length}
use Rattle.std.proofs.Common.{sym, ap, ◌∙◌, arith, append_assoc, length-append}
use Rattle.lists.specs.Part.{part, put_at}
use Rattle.lists.specs.Part.Laws.{part-whole, part-append-left, part-append-right, put_at-put_at, put_at-whole}

pub read-front : (a b : List ℕ) (n : ℕ) → length a ≡ n → part (a ++ b) 0 n ≡ a
read-front a b n e = part-append-left a b 0 n (omega arith) ∙ part-whole a n (omega arith)

pub read_behind : (a b : List ℕ) (n at k : ℕ) → length a ≡ n → part (a ++ b) (n + at) k ≡ part b at k
read_behind a b n at k e = ap (λ (j : ℕ). part (a ++ b) (j + at) k) (sym e) ∙ part-append-right a b at k

pub written_next : (d a b o o' : List ℕ) (n : ℕ) → o ≡ put_at d 0 a → o' ≡ put_at o n b → n ≡ length a → length a + length b ≤ length d → o' ≡ put_at d 0 (a ++ b)
written_next d a b o o' n e e' is fits = e' ∙ ap (λ (l : List ℕ). put_at l n b) e ∙ ap (λ (k : ℕ). put_at (put_at d 0 a) k b) is ∙ put_at-put_at d a b fits

module _ (d a b c e f o₁ o₂ o₃ o₄ o₅ : List ℕ) (n₂ n₃ n₄ n₅ : ℕ) where
  pub written-five : o₁ ≡ put_at d 0 a → o₂ ≡ put_at o₁ n₂ b → o₃ ≡ put_at o₂ n₃ c → o₄ ≡ put_at o₃ n₄ e → o₅ ≡ put_at o₄ n₅ f
      → n₂ ≡ length a → n₃ ≡ n₂ + length b → n₄ ≡ n₃ + length c → n₅ ≡ n₄ + length e → length d ≡ n₅ + length f
      → o₅ ≡ a ++ (b ++ (c ++ (e ++ f)))
  written-five e₁ e₂ e₃ e₄ e₅ h₂ h₃ h₄ h₅ h =
      let l₂ = length-append a b in
      let l₃ = length-append (a ++ b) c in
      let l₄ = length-append ((a ++ b) ++ c) e in
      let l₅ = length-append (((a ++ b) ++ c) ++ e) f in
      let w₂ = written_next d a b o₁ o₂ n₂ e₁ e₂ h₂ (omega arith) in
      let w₃ = written_next d (a ++ b) c o₂ o₃ n₃ w₂ e₃ (omega arith) (omega arith) in
      let w₄ = written_next d ((a ++ b) ++ c) e o₃ o₄ n₄ w₃ e₄ (omega arith) (omega arith) in
      let w₅ = written_next d (((a ++ b) ++ c) ++ e) f o₄ o₅ n₅ w₄ e₅ (omega arith) (omega arith) in
      w₅ ∙ put_at-whole d ((((a ++ b) ++ c) ++ e) ++ f) (omega arith) ∙ simp append_assoc
