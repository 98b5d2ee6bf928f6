-- The steps of the scanner by their cases, as the functions of `src/` come to them.
--
-- byte_past, byte_word, byte-number, byte-matrix, byte-y, byte-x_a      one byte more of a field, by its place
-- step_line, step_field, step-byte                                     one byte more of the text, by the byte
-- fold_more                                                            a loop that takes the text byte by byte
use Rattle.std.specs.Prelude.{◌≡◌, ℕ, ◌+◌, ◌≤◌, ◌<◌, length, drop, get_or}
use Rattle.std.proofs.Common.{ap, ◌∙◌, add-one, drop-cons}
use mathlib.Core.List.{List}
use borrow.Author.Tests.{le-leb, lt-leb, eq-eqb, ne_eqb}
use Rattle.text.specs.Fold.{fold}
use Rattle.text.specs.Scanner.Word.{word_step}
use Rattle.text.specs.Scanner.Decimal.{decimal_step}
use Rattle.keytext.specs.declared.KeyScan.{KeyScan}
use Rattle.keytext.specs.Form.{word_of}
use Rattle.keytext.specs.Scan.{broken, with_word, with_number, Held, held, hexed, hex_byte, byte_step, field_end, line_end, step}

module _ (h : Held) (b : ℕ) {r : KeyScan} where
  pub byte_past : 3 < h.scan.line → r ≡ broken h.scan → held r h.matrix h.y h.x_a ≡ byte_step h b
  unfolding byte_step
  byte_past l e = rw (lt-leb h.scan.line 3 l, e)

  module _ (l : h.scan.line ≤ 3) where
    pub byte_word : h.scan.field ≡ 0 → r ≡ with_word h.scan (word_step (word_of h.scan.line) h.scan.word b)
        → held r h.matrix h.y h.x_a ≡ byte_step h b
    unfolding byte_step
    byte_word f e = rw (le-leb h.scan.line 3 l, eq-eqb h.scan.field 0 f, e)

    module _ (f : h.scan.field ≡ 0 → ⊥) where
      pub byte-number : h.scan.line ≡ 0 → r ≡ with_number h.scan (decimal_step 3 h.scan.number b)
          → held r h.matrix h.y h.x_a ≡ byte_step h b
      unfolding byte_step
      byte-number n e = rw (le-leb h.scan.line 3 l, ne_eqb h.scan.field 0 f, eq-eqb h.scan.line 0 n, e)

      module _ {d : List ℕ} (n : h.scan.line ≡ 0 → ⊥) where
        pub byte-matrix : h.scan.line ≡ 1 → hexed r d ≡ hex_byte h.scan h.matrix b → held r d h.y h.x_a ≡ byte_step h b
        unfolding byte_step
        byte-matrix m e =
            rw (le-leb h.scan.line 3 l, ne_eqb h.scan.field 0 f, ne_eqb h.scan.line 0 n, eq-eqb h.scan.line 1 m)
            (ap (λ (p : KeyScan × List ℕ). held p.0 p.1 h.y h.x_a) e)

        module _ (m : h.scan.line ≡ 1 → ⊥) where
          pub byte-y : h.scan.line ≡ 2 → hexed r d ≡ hex_byte h.scan h.y b → held r h.matrix d h.x_a ≡ byte_step h b
          unfolding byte_step
          byte-y k e =
              rw (le-leb h.scan.line 3 l, ne_eqb h.scan.field 0 f, ne_eqb h.scan.line 0 n, ne_eqb h.scan.line 1 m, eq-eqb h.scan.line 2 k)
              (ap (λ (p : KeyScan × List ℕ). held p.0 h.matrix p.1 h.x_a) e)

          pub byte-x_a : (h.scan.line ≡ 2 → ⊥) → hexed r d ≡ hex_byte h.scan h.x_a b → held r h.matrix h.y d ≡ byte_step h b
          unfolding byte_step
          byte-x_a k e =
              rw (le-leb h.scan.line 3 l, ne_eqb h.scan.field 0 f, ne_eqb h.scan.line 0 n, ne_eqb h.scan.line 1 m, ne_eqb h.scan.line 2 k)
              (ap (λ (p : KeyScan × List ℕ). held p.0 h.matrix h.y p.1) e)

module _ (h : Held) (b : ℕ) where
  pub step_line : {r : KeyScan} → b ≡ 10 → r ≡ line_end h.scan → held r h.matrix h.y h.x_a ≡ step h b
  unfolding step
  step_line p e = rw (eq-eqb b 10 p, e)

  pub step_field : {r : KeyScan} → (b ≡ 10 → ⊥) → b ≡ 9 → r ≡ field_end h.scan → held r h.matrix h.y h.x_a ≡ step h b
  unfolding step
  step_field p q e = rw (ne_eqb b 10 p, eq-eqb b 9 q, e)

  pub step-byte : {g : Held} → (b ≡ 10 → ⊥) → (b ≡ 9 → ⊥) → g ≡ byte_step h b → g ≡ step h b
  unfolding step
  step-byte p q e = rw (ne_eqb b 10 p, ne_eqb b 9 q) e

pub fold_more : (t : List ℕ) (i : ℕ) (h : Held) {g : Held} → i < length t → g ≡ step h (get_or t i 0) → fold step g (drop (i + 1) t) ≡ fold step h (drop i t)
fold_more t i h {g} l e = ap (λ (k : Held). fold step k (drop (i + 1) t)) e ∙ rw (drop-cons t i 0 l, add-one i)
