-- What steps of the scanner keep.
--
-- Unsound h            the text so far is not the four lines
-- unsound-byte, unsound-field, unsound-line    it stays so
-- OnLine i h           i lines have ended
-- line-byte, line-field    bytes and tabs end none
use Rattle.std.specs.Prelude.{◌≡◌, refl, ℕ, ◌+◌, Bool, true, false, cond, ◌&&◌, eqb, ltb, leb}
use Rattle.std.proofs.Common.{ap, ◌∙◌}
use Rattle.text.specs.Split.{tab}
use Rattle.text.specs.Split.Laws.{parted}
use Rattle.text.specs.Scanner.Hex.{hex_held, hex_step}
use Rattle.text.specs.Scanner.Word.{word_step}
use Rattle.text.specs.Scanner.Decimal.{decimal_step}
use Rattle.keytext.specs.declared.KeyScan.{KeyScan}
use Rattle.keytext.specs.Form.{word_of, last_field}
use Rattle.keytext.specs.Scan.{broken, with_word, with_number, Held, held, on_scan, on_matrix, on_y, on_x_a, byte_step, accepted, closed, field_end, line_end}

abbrev pub Unsound : Held → Type 0
Unsound h = h.scan.sound ≡ false

abbrev pub OnLine : ℕ → Held → Type 0
OnLine i h = h.scan.line ≡ i

-- one of the six cases of a byte
module _ (P : Held → Type 0) (h : Held) (b : ℕ) (past : P (on_scan broken h)) (kept : (s : KeyScan) (m y x : _) → s.sound ≡ h.scan.sound → s.line ≡ h.scan.line → P (held s m y x)) where
  by_cases : (t₀ t₁ t₂ t₃ t₄ : Bool)
      → P (cond t₀
      (cond t₁ (on_scan (λ s. with_word s (word_step (word_of s.line) s.word b)) h)
      (cond t₂ (on_scan (λ s. with_number s (decimal_step 3 s.number b)) h)
      (cond t₃ (on_matrix h (hex_step (hex_held h.scan.hex h.matrix) b))
      (cond t₄ (on_y h (hex_step (hex_held h.scan.hex h.y) b)) (on_x_a h (hex_step (hex_held h.scan.hex h.x_a) b))))))
      (on_scan broken h))
  by_cases false t₁ t₂ t₃ t₄ = past
  by_cases true true t₂ t₃ t₄ = kept _ _ _ _ refl refl
  by_cases true false true t₃ t₄ = kept _ _ _ _ refl refl
  by_cases true false false true t₄ = kept _ _ _ _ refl refl
  by_cases true false false false true = kept _ _ _ _ refl refl
  by_cases true false false false false = kept _ _ _ _ refl refl

  byte-keeps : P (byte_step h b)
  unfolding byte_step
  byte-keeps = by_cases (leb h.scan.line 3) (eqb h.scan.field 0) (eqb h.scan.line 0) (eqb h.scan.line 1) (eqb h.scan.line 2)

pub unsound-byte : (h : Held) (b : ℕ) → Unsound h → Unsound (byte_step h b)
unsound-byte h b e = byte-keeps Unsound h b refl (λ s m y x p q. p ∙ e)

pub line-byte : (i : ℕ) (h : Held) (b : ℕ) → OnLine i h → OnLine i (byte_step h b)
line-byte i h b e = byte-keeps (OnLine i) h b e (λ s m y x p q. q ∙ e)

unsound-closed : (s : KeyScan) (i j : ℕ) → s.sound ≡ false → (closed s i j).sound ≡ false
unfolding closed
unsound-closed s i j e = ap (λ (b : Bool). b && accepted s) e

pub unsound-field : (h : Held) → Unsound h → Unsound (on_scan field_end h)
unfolding field_end
unsound-field h e = go (leb h.scan.line 3 && ltb h.scan.field (last_field h.scan.line))
  where
    go : (t : Bool) → (cond t (closed h.scan h.scan.line (h.scan.field + 1)) (broken h.scan)).sound ≡ false
    go true = unsound-closed h.scan h.scan.line (h.scan.field + 1) e
    go false = refl

pub line-field : (i : ℕ) (h : Held) → OnLine i h → OnLine i (on_scan field_end h)
unfolding field_end closed
line-field i h e = go (leb h.scan.line 3 && ltb h.scan.field (last_field h.scan.line))
  where
    go : (t : Bool) → (cond t (closed h.scan h.scan.line (h.scan.field + 1)) (broken h.scan)).line ≡ i
    go true = e
    go false = e

pub unsound-line : (h : Held) → Unsound h → Unsound (on_scan line_end h)
unfolding line_end
unsound-line h e = go (leb h.scan.line 3 && eqb h.scan.field (last_field h.scan.line))
  where
    go : (t : Bool) → (cond t (closed h.scan (h.scan.line + 1) 0) (broken h.scan)).sound ≡ false
    go true = unsound-closed h.scan (h.scan.line + 1) 0 e
    go false = refl

-- a byte of a line: a tab or a field's byte
abbrev pub line_byte : Held → ℕ → Held
line_byte = parted tab (on_scan field_end) byte_step

pub unsound-line_byte : (h : Held) (b : ℕ) → Unsound h → Unsound (line_byte h b)
unsound-line_byte h b e = go (eqb b tab)
  where
    go : (t : Bool) → Unsound (cond t (on_scan field_end h) (byte_step h b))
    go true = unsound-field h e
    go false = unsound-byte h b e

pub line-line_byte : (i : ℕ) (h : Held) (b : ℕ) → OnLine i h → OnLine i (line_byte h b)
line-line_byte i h b e = go (eqb b tab)
  where
    go : (t : Bool) → OnLine i (cond t (on_scan field_end h) (byte_step h b))
    go true = line-field i h e
    go false = line-byte i h b e
