-- The lines that are printed, written one behind the other.
--
-- Written d at t r d'      t was written to d from index at on: r is the place behind it, d' what d has become
-- Weighted w x             x has at most w nonzero entries, and w and the length of x are within the limits
-- line-written             a line written part by part
-- length-decimal_text       a decimal has at most three digits
-- refused-written          a refusal written part by part
-- lines-written            two texts written one behind the other
-- key-written              the five lines
-- written-whole            a text written from the front on
use Rattle.std.specs.Prelude.{◌≡◌, Bool, true, false, cond, ltb}
use Rattle.std.proofs.Math.Path.{refl, ap}
use Rattle.std.proofs.Common.{◌∙◌}
use Prim.Native.Nat.{ℕ, ◌+◌, ◌*◌, ◌/◌, ◌%◌, ◌≤◌, ◌<◌}
use native.Mathlib.Omega.{arith}
use mathlib.Core.List.{List, [], ◌∷◌, ◌++◌, append_assoc}
use Rattle.std.proofs.Math.ListN.{length, length-append}
use Rattle.lists.specs.Part.{put_at}
use Rattle.answers.specs.declared.Refusal.{Refusal}
use Rattle.answers.specs.Number.{refusal_number}
use Rattle.polynomial.specs.Interpolant.{interpolant_of, vanishing_of}
use Rattle.relation.specs.Key.{weight_of, locator_of, quotient_of}
use Rattle.text.specs.Decimal.{decimal_text}
use Rattle.text.specs.Hex.{hex_text}
use Rattle.text.specs.Hex.Laws.{length-hex_text}
use Rattle.text.specs.Put.{put_at-join}
use Rattle.keytext.specs.Listing.{vector_word, locator_word, s_word, p_word, f_word, refused_word, result_line, refused_line, key_lines}

pub record Written (d : List ℕ) (at : ℕ) (t : List ℕ) (r : ℕ) (d' : List ℕ) : Type 0 where
  pub next : r ≡ at + length t
  pub list : d' ≡ put_at d at t

pub record Weighted (w : ℕ) (x : List ℕ) : Type 0 where
  pub least : 1 ≤ w
  pub most : w ≤ length x
  pub light : weight_of x ≤ w
  pub short : length x < 256

-- a write behind a write
join : (d : List ℕ) (at i : ℕ) (a b : List ℕ) → i ≡ at + length a → i + length b ≤ length d → put_at (put_at d at a) i b ≡ put_at d at (a ++ b)
join d at i a b e h = ap (λ (n : ℕ). put_at (put_at d at a) n b) e ∙ put_at-join d at a b (omega arith)

module _ (d : List ℕ) (at : ℕ) (word s : List ℕ) (room : at + length word + 2 * length s + 2 ≤ length d) where
  pub line-written : {d₁ d₂ d₃ d₄ : List ℕ} → d₁ ≡ put_at d at word → d₂ ≡ put_at d₁ (at + length word) (9 ∷ [])
      → d₃ ≡ put_at d₂ (at + length word + 1) (hex_text s) → d₄ ≡ put_at d₃ (at + length word + 1 + 2 * length s) (10 ∷ [])
      → Written d at (result_line word s) (at + length word + 1 + 2 * length s + 1) d₄ × (at + length word + 1 + 2 * length s + 1 ≡ at + length word + 2 * length s + 2)
  unfolding result_line
  line-written e₁ e₂ e₃ e₄ =
      let h = length-hex_text s in
      let n : ℕ = at + length word in
      let l₁ : length (word ++ (9 ∷ [])) ≡ length word + 1 = length-append word (9 ∷ []) in
      let l₂ : length ((word ++ (9 ∷ [])) ++ hex_text s) ≡ length (word ++ (9 ∷ [])) + length (hex_text s) = length-append (word ++ (9 ∷ [])) (hex_text s) in
      let l₃ : length (((word ++ (9 ∷ [])) ++ hex_text s) ++ (10 ∷ [])) ≡ length ((word ++ (9 ∷ [])) ++ hex_text s) + 1 = length-append ((word ++ (9 ∷ [])) ++ hex_text s) (10 ∷ []) in
      let q : ((word ++ (9 ∷ [])) ++ hex_text s) ++ (10 ∷ []) ≡ word ++ (9 ∷ (hex_text s ++ (10 ∷ []))) = simp append_assoc in
      let l₄ : length (((word ++ (9 ∷ [])) ++ hex_text s) ++ (10 ∷ [])) ≡ length (word ++ (9 ∷ (hex_text s ++ (10 ∷ [])))) = ap length q in (
        record {
          next = omega arith;
          list =
              e₄ ∙ ap (λ (l : List ℕ). put_at l (n + 1 + 2 * length s) (10 ∷ []))
              (e₃ ∙ ap (λ (l : List ℕ). put_at l (n + 1) (hex_text s)) (e₂ ∙ ap (λ (l : List ℕ). put_at l n (9 ∷ [])) e₁ ∙ join d at n word (9 ∷ []) refl (omega arith))
              ∙ join d at (n + 1) (word ++ (9 ∷ [])) (hex_text s) (omega arith) (omega arith))
              ∙ join d at (n + 1 + 2 * length s) ((word ++ (9 ∷ [])) ++ hex_text s) (10 ∷ []) (omega arith) (omega arith)
              ∙ ap (put_at d at) q;
        },
        omega arith,
      )

pub length-decimal_text : (n : ℕ) → length (decimal_text n) ≤ 3
unfolding decimal_text
length-decimal_text n = go (ltb n 10) (ltb n 100)
  where
    go : (s t : Bool) → length (cond s ((48 + n) ∷ []) (cond t ((48 + n / 10) ∷ (48 + n % 10) ∷ []) ((48 + n / 100) ∷ (48 + n / 10 % 10) ∷ (48 + n % 10) ∷ []))) ≤ 3
    go true t = omega arith
    go false true = omega arith
    go false false = omega arith

-- `refused` and a tab
abbrev refused_tab : List ℕ
refused_tab = 114 ∷ 101 ∷ 102 ∷ 117 ∷ 115 ∷ 101 ∷ 100 ∷ 9 ∷ []

pub refused_end : (n : ℕ) {e : ℕ} → e ≡ 8 + length (decimal_text n) → e + 1 ≤ 12
refused_end n h = omega (arith, length-decimal_text n)

pub refused-written : (d : List ℕ) (r : Refusal) {n e : ℕ} {d₁ d₂ d₃ : List ℕ} → 12 ≤ length d → n ≡ refusal_number r → d₁ ≡ put_at d 0 refused_tab
    → e ≡ 8 + length (decimal_text n) → d₂ ≡ put_at d₁ 8 (decimal_text n) → d₃ ≡ put_at d₂ e (10 ∷ []) → Written d 0 (refused_line r) (e + 1) d₃
unfolding refused_line refused_word
refused-written d r {n} {e} room en e₁ ee e₂ e₃ =
    let t : List ℕ = decimal_text n in
    let h = length-decimal_text n in
    let k : length (refused_tab ++ t) ≡ 8 + length t = length-append refused_tab t in
    let q : (refused_tab ++ t) ++ (10 ∷ []) ≡ refused_word ++ (9 ∷ (decimal_text (refusal_number r) ++ (10 ∷ []))) = ap (λ (m : ℕ). refused_tab ++ (decimal_text m ++ (10 ∷ []))) en in
    let l : length ((refused_tab ++ t) ++ (10 ∷ [])) ≡ length (refused_tab ++ t) + 1 = length-append (refused_tab ++ t) (10 ∷ []) in
    let z = ap length q in
    record {
      next = omega arith;
      list =
          e₃ ∙ ap (λ (z : List ℕ). put_at z e (10 ∷ [])) (e₂ ∙ ap (λ (z : List ℕ). put_at z 8 t) e₁ ∙ join d 0 8 refused_tab t refl (omega arith))
          ∙ join d 0 e (refused_tab ++ t) (10 ∷ []) (omega arith) (omega arith) ∙ ap (put_at d 0) q;
    }

pub lines-written : {d d₁ d₂ s t : List ℕ} {at r r' : ℕ} → r' ≤ length d → Written d at s r d₁ → Written d₁ r t r' d₂ → Written d at (s ++ t) r' d₂
lines-written {d} {d₁} {d₂} {s} {t} {at} {r} {r'} h u v =
    let l = length-append s t in
    record {
      next = omega arith;
      list = v.list ∙ ap (λ (z : List ℕ). put_at z r t) u.list ∙ join d at r s t u.next (omega arith);
    }

pub key-written : (d : List ℕ) (w : ℕ) (x : List ℕ) {d₁ d₂ d₃ d₄ d₅ : List ℕ} {a b c e r : ℕ} → r ≤ length d
    → Written d 0 (result_line vector_word x) a d₁ → Written d₁ a (result_line locator_word (locator_of w x)) b d₂ → Written d₂ b (result_line s_word (interpolant_of x)) c d₃
    → Written d₃ c (result_line p_word (quotient_of w x)) e d₄ → Written d₄ e (result_line f_word (vanishing_of (length x))) r d₅ → Written d 0 (key_lines w x) r d₅
unfolding key_lines
key-written d w x {d₁} {d₂} {d₃} {d₄} {d₅} {a} {b} {c} {e} {r} h v₁ v₂ v₃ v₄ v₅ =
    let n₂ = v₂.next in
    let n₃ = v₃.next in
    let n₄ = v₄.next in
    let n₅ = v₅.next in
    let all = lines-written h (lines-written (omega arith) (lines-written (omega arith) (lines-written (omega arith) v₁ v₂) v₃) v₄) v₅ in
    let q : (((result_line vector_word x ++ result_line locator_word (locator_of w x)) ++ result_line s_word (interpolant_of x)) ++ result_line p_word (quotient_of w x)) ++ result_line f_word (vanishing_of (length x)) ≡ key_lines w x = simp append_assoc in
    record { next = all.next ∙ ap (λ (t : List ℕ). 0 + length t) q; list = all.list ∙ ap (put_at d 0) q }

pub written-whole : (d t : List ℕ) {r : ℕ} {d' : List ℕ} → Written d 0 t r d' → (r ≡ length t) × (d' ≡ put_at d 0 t)
written-whole d t v = let n = v.next in (omega arith, v.list)
