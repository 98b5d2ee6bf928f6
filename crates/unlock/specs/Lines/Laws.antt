-- The lines written part by part.
--
-- written_as               what was written, under another name
-- number-three, number-six     a decimal of at most three digits, and one of four to six
-- numbers-small            the numbers of parameters within their limits are small
-- exponent_small           so is the exponent of the chance
-- set-written, runs-written, message-written, refused-written, chance-written      the lines
-- written-fits             a line written to the front lies within what it was written to
use Rattle.std.specs.Prelude.{◌≡◌, length, Err}
use Rattle.std.proofs.Math.Path.{ap}
use Rattle.std.proofs.Common.{◌∙◌, mul-le-mul, arith, lt-ltb, le-ltb}
use mathlib.Core.List.{List, [], ◌∷◌, ◌++◌, append_assoc}
use Prim.Native.Nat.{ℕ, ◌+◌, ◌*◌, ◌/◌, ◌%◌, ◌≤◌, ◌<◌}
use Rattle.std.proofs.Math.ListN.{get_or}
use Rattle.lists.specs.Part.{put_at}
use Rattle.answers.specs.declared.Refusal.{Refusal}
use Rattle.answers.specs.Number.{refusal_number}
use Rattle.parameters.specs.declared.Parameters.{Parameters}
use Rattle.parameters.specs.Limits.{Within}
use Rattle.parameters.specs.Set.{numbers_of}
use Rattle.layout.specs.Maxima.{most_runs}
use Rattle.shake256.specs.Fips.{SHAKE256}
use Rattle.text.specs.Decimal.{decimal_text}
use Rattle.keytext.specs.Form.{set_word}
use Rattle.keytext.specs.Listing.{refused_word, result_line}
use Rattle.keytext.specs.Listing.Laws.{Written, lines-written, length-decimal_text, written-whole}
use Rattle.keytext.proofs.Laws.Finish.{fits-room}
use Rattle.unlock.specs.Lines.{runs_word, verdict_word, chance_word, power_text, chance_text, three_digits, number_text, number_field, number_fields}
use Rattle.unlock.specs.Lines.{set_line, runs_line, message_line, verdict_line, chance_line}

pub written_as : {d d' s t : List ℕ} {at r : ℕ} → s ≡ t → Written d at s r d' → Written d at t r d'
written_as {d} {at = at} q v = record { next = v.next ∙ ap (λ (t : List ℕ). at + length t) q; list = v.list ∙ ap (put_at d at) q }

pub written-fits : {d d' t : List ℕ} {r : ℕ} → Written d 0 t r d' → r ≤ length d'
written-fits {d} {t = t} v = let w = written-whole d t v in fits-room d t w.0 w.1

module _ (d : List ℕ) (at n : ℕ) where
  pub number-three : {d' : List ℕ} {r : ℕ} → n < 1_000 → r ≡ at + length (decimal_text n) → d' ≡ put_at d at (decimal_text n)
      → Written d at (number_text n) r d' × (r ≤ at + 6)
  unfolding number_text
  number-three h e f = (rw (lt-ltb n 1_000 h) (record { next = e; list = f }), omega (arith, length-decimal_text n))

  pub number-six : {d₁ d₂ : List ℕ} {a r : ℕ} → 1_000 ≤ n → at + 6 ≤ length d → a ≡ at + length (decimal_text (n / 1_000))
      → d₁ ≡ put_at d at (decimal_text (n / 1_000)) → Written d₁ a (three_digits (n % 1_000)) r d₂ → Written d at (number_text n) r d₂ × (r ≤ at + 6)
  unfolding number_text
  number-six {a = a} {r = r} h room e f v =
      let l = length-decimal_text (n / 1_000) in
      let k : r ≤ at + 6 = omega (arith, v.next) in
      (rw (le-ltb n 1_000 h) (lines-written (omega arith) (record { next = e; list = f }) v), k)

regrouped : (a b c d e f g : List ℕ) → (((((a ++ b) ++ c) ++ d) ++ e) ++ f) ++ g ≡ a ++ ((b ++ (c ++ (d ++ (e ++ (f ++ []))))) ++ g)
regrouped a b c d e f g = simp append_assoc

module _ (p : Parameters) (ns : List ℕ) (e : ns ≡ numbers_of p) where
  pub numbers-small : Within p
      → (get_or ns 0 0 < 1_000_000) × (get_or ns 1 0 < 1_000_000) × (get_or ns 2 0 < 1_000_000) × (get_or ns 3 0 < 1_000_000) × (get_or ns 4 0 < 1_000_000)
  numbers-small h = rw e (omega arith, omega arith, omega arith, omega arith, omega arith)

  pub set-written : (d : List ℕ) {d₁ d₂ d₃ d₄ d₅ d₆ d₇ : List ℕ} {a b c e f g r : ℕ} → r ≤ length d → Written d 0 set_word a d₁
      → Written d₁ a (number_field (get_or ns 0 0)) b d₂ → Written d₂ b (number_field (get_or ns 1 0)) c d₃ → Written d₃ c (number_field (get_or ns 2 0)) e d₄
      → Written d₄ e (number_field (get_or ns 3 0)) f d₅ → Written d₅ f (number_field (get_or ns 4 0)) g d₆ → Written d₆ g (10 ∷ []) r d₇
      → Written d 0 (set_line p) r d₇
  unfolding set_line
  set-written d {a = a} {b = b} {c = c} {e = k} {f = f} {g = g} {r = r} h v₁ v₂ v₃ v₄ v₅ v₆ v₇ =
      let n₂ = v₂.next in
      let n₃ = v₃.next in
      let n₄ = v₄.next in
      let n₅ = v₅.next in
      let n₆ = v₆.next in
      let n₇ = v₇.next in
      let v = lines-written (omega arith) (lines-written (omega arith) (lines-written (omega arith) v₁ v₂) v₃) v₄ in
      let all = lines-written h (lines-written (omega arith) (lines-written (omega arith) v v₅) v₆) v₇ in
      let at : ℕ → List ℕ = λ i. number_field (get_or ns i 0) in
      written_as
      (regrouped set_word (at 0) (at 1) (at 2) (at 3) (at 4) (10 ∷ [])
      ∙ ap (λ (l : List ℕ). set_word ++ (number_fields (get_or l 0 0 ∷ get_or l 1 0 ∷ get_or l 2 0 ∷ get_or l 3 0 ∷ get_or l 4 0 ∷ []) ++ (10 ∷ []))) e)
      all

pub message-written : (d name s : List ℕ) {d₁ d₂ d₃ : List ℕ} {a b r : ℕ} → r ≤ length d → Written d 0 name a d₁
    → Written d₁ a (number_field (length s)) b d₂ → Written d₂ b (result_line [] (SHAKE256 s 32)) r d₃ → Written d 0 (message_line name s) r d₃
unfolding message_line result_line
message-written d name s {a = a} {b = b} {r = r} h v₁ v₂ v₃ =
    let n₃ = v₃.next in
    written_as (simp append_assoc) (lines-written h (lines-written (omega arith) v₁ v₂) v₃)

pub runs-written : (d : List ℕ) (n : ℕ) {d₁ d₂ d₃ : List ℕ} {a b r : ℕ} → r ≤ length d → Written d 0 runs_word a d₁
    → Written d₁ a (number_field n) b d₂ → Written d₂ b (10 ∷ []) r d₃ → Written d 0 (runs_line n) r d₃
unfolding runs_line
runs-written d n {a = a} {b = b} {r = r} h v₁ v₂ v₃ =
    let n₃ = v₃.next in
    written_as (append_assoc runs_word (number_field n) (10 ∷ [])) (lines-written h (lines-written (omega arith) v₁ v₂) v₃)

abbrev verdict_refused : List ℕ
verdict_refused = 118 ∷ 101 ∷ 114 ∷ 100 ∷ 105 ∷ 99 ∷ 116 ∷ 9 ∷ 114 ∷ 101 ∷ 102 ∷ 117 ∷ 115 ∷ 101 ∷ 100 ∷ []

pub refused-written : (d : List ℕ) (q : Refusal) {d₁ d₂ d₃ : List ℕ} {a b n r : ℕ} → r ≤ length d → Written d 0 verdict_refused a d₁
    → n ≡ refusal_number q → Written d₁ a (number_field n) b d₂ → Written d₂ b (10 ∷ []) r d₃ → Written d 0 (verdict_line (Err q)) r d₃
unfolding verdict_line verdict_word refused_word
refused-written d q {a = a} {b = b} {n = n} {r = r} h v₁ e v₂ v₃ =
    let n₃ = v₃.next in
    written_as (append_assoc verdict_refused (number_field n) (10 ∷ []) ∙ ap (λ (m : ℕ). verdict_refused ++ (number_field m ++ (10 ∷ []))) e) (lines-written h (lines-written (omega arith) v₁ v₂) v₃)

pub exponent_small : (p : Parameters) → Within p → (n : ℕ) → n ≤ most_runs → n * p.axes ≤ 256
exponent_small p w n h = mul-le-mul h w.axes-most

-- `chance`, a tab and `2^-`; a tab, what the chance is of, and the line's end
abbrev chance_start : List ℕ
chance_start = chance_word ++ (9 ∷ power_text)

abbrev chance_end : List ℕ
chance_end = 9 ∷ (chance_text ++ (10 ∷ []))

pub chance-written : (d : List ℕ) (p : Parameters) (n : ℕ) {d₁ d₂ d₃ : List ℕ} {a b r : ℕ} → r ≤ length d → Written d 0 chance_start a d₁
    → Written d₁ a (number_text (n * p.axes)) b d₂ → Written d₂ b chance_end r d₃ → Written d 0 (chance_line p n) r d₃
unfolding chance_line
chance-written d p n {a = a} {b = b} {r = r} h v₁ v₂ v₃ =
    let n₃ = v₃.next in
    written_as (simp append_assoc) (lines-written h (lines-written (omega arith) v₁ v₂) v₃)
