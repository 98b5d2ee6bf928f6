-- The scanner of a key's text as a function of the bytes so far.
--
-- start                    before the first byte
-- broken s                 the text is not the four lines
-- with_word, with_number, with_hex    the field begun, read on by the scanner of its kind
-- Held, held s m y x       a scanner's state beside what the lent slices hold
-- hex_byte s d b            a hex field read on, its bytes into d
-- byte_step h b             one byte more of a field
-- accepted s               the field, ended here, is what its place asks for
-- saved_numbers, saved_lengths       the numbers and lengths with those of the field ended here
-- closed s i j             the field ends, and another begins at field j of line i
-- field_end s, line_end s    after a tab, after a line feed
-- step h b                 after the byte b
-- complete s               the text, ended here, is the four lines
use Rattle.std.specs.Prelude.{ℕ, ◌+◌, ◌-◌, Bool, true, false, cond, ◌&&◌, List, [], ◌∷◌, eqb, ltb, leb, set}
use Rattle.text.specs.declared.word.WordScan.{WordScan}
use Rattle.text.specs.declared.decimal.DecimalScan.{DecimalScan}
use Rattle.text.specs.declared.hex.HexScan.{HexScan}
use Rattle.text.specs.Split.{tab, line_feed}
use Rattle.text.specs.Split.Laws.{parted}
use Rattle.text.specs.Scanner.Word.{word_start, word_step, word_accepts}
use Rattle.text.specs.Scanner.Decimal.{decimal_start, decimal_step, decimal_accepts}
use Rattle.text.specs.Scanner.Hex.{hex_start, HexHeld, hex_held, hex_step, hex_accepts}
use Rattle.keytext.specs.declared.KeyScan.{KeyScan}
use Rattle.keytext.specs.Form.{word_of, last_field}

abbrev pub start : KeyScan
start =
    record {
      sound = true;
      line = 0;
      field = 0;
      word = word_start;
      number = decimal_start;
      hex = hex_start;
      numbers = 0 ∷ 0 ∷ 0 ∷ 0 ∷ 0 ∷ [];
      lengths = 0 ∷ 0 ∷ 0 ∷ [];
    }

abbrev pub with_sound : KeyScan → Bool → KeyScan
with_sound s b =
    record { sound = b; line = s.line; field = s.field; word = s.word; number = s.number; hex = s.hex; numbers = s.numbers; lengths = s.lengths }

abbrev pub broken : KeyScan → KeyScan
broken s = with_sound s false

abbrev pub with_word : KeyScan → WordScan → KeyScan
with_word s w =
    record { sound = s.sound; line = s.line; field = s.field; word = w; number = s.number; hex = s.hex; numbers = s.numbers; lengths = s.lengths }

abbrev pub with_number : KeyScan → DecimalScan → KeyScan
with_number s n =
    record { sound = s.sound; line = s.line; field = s.field; word = s.word; number = n; hex = s.hex; numbers = s.numbers; lengths = s.lengths }

abbrev pub with_hex : KeyScan → HexScan → KeyScan
with_hex s x =
    record { sound = s.sound; line = s.line; field = s.field; word = s.word; number = s.number; hex = x; numbers = s.numbers; lengths = s.lengths }

pub record Held : Type 0 where
  pub scan : KeyScan
  pub matrix : List ℕ
  pub y : List ℕ
  pub x_a : List ℕ

abbrev pub held : KeyScan → List ℕ → List ℕ → List ℕ → Held
held s m y x = record { scan = s; matrix = m; y = y; x_a = x }

-- the scanner alone goes on
abbrev pub on_scan : (KeyScan → KeyScan) → Held → Held
on_scan f h = held (f h.scan) h.matrix h.y h.x_a

-- a scanner's state beside what one lent slice holds
abbrev pub hexed : KeyScan → List ℕ → KeyScan × List ℕ
hexed s d = (s, d)

abbrev pub hex_byte : KeyScan → List ℕ → ℕ → KeyScan × List ℕ
hex_byte s d b = (with_hex s (hex_step (hex_held s.hex d) b).scan, (hex_step (hex_held s.hex d) b).out)

abbrev pub on_matrix : Held → HexHeld → Held
on_matrix h p = held (with_hex h.scan p.scan) p.out h.y h.x_a

abbrev pub on_y : Held → HexHeld → Held
on_y h p = held (with_hex h.scan p.scan) h.matrix p.out h.x_a

abbrev pub on_x_a : Held → HexHeld → Held
on_x_a h p = held (with_hex h.scan p.scan) h.matrix h.y p.out

unfoldable pub byte_step : Held → ℕ → Held
byte_step h b =
    cond (leb h.scan.line 3)
    (cond (eqb h.scan.field 0) (on_scan (λ s. with_word s (word_step (word_of s.line) s.word b)) h)
    (cond (eqb h.scan.line 0) (on_scan (λ s. with_number s (decimal_step 3 s.number b)) h)
    (cond (eqb h.scan.line 1) (on_matrix h (hex_step (hex_held h.scan.hex h.matrix) b))
    (cond (eqb h.scan.line 2) (on_y h (hex_step (hex_held h.scan.hex h.y) b)) (on_x_a h (hex_step (hex_held h.scan.hex h.x_a) b))))))
    (on_scan broken h)

unfoldable pub accepted : KeyScan → Bool
accepted s =
    cond (eqb s.field 0) (word_accepts (word_of s.line) s.word) (cond (eqb s.line 0) (decimal_accepts s.number) (hex_accepts s.hex))

unfoldable pub saved_numbers : KeyScan → List ℕ
saved_numbers s = cond (eqb s.line 0 && (leb 1 s.field && leb s.field 5)) (set s.numbers (s.field - 1) s.number.value) s.numbers

unfoldable pub saved_lengths : KeyScan → List ℕ
saved_lengths s = cond (leb 1 s.field && (leb 1 s.line && leb s.line 3)) (set s.lengths (s.line - 1) s.hex.count) s.lengths

unfoldable pub closed : KeyScan → ℕ → ℕ → KeyScan
closed s i j =
    record {
      sound = s.sound && accepted s;
      line = i;
      field = j;
      word = word_start;
      number = decimal_start;
      hex = hex_start;
      numbers = saved_numbers s;
      lengths = saved_lengths s;
    }

unfoldable pub field_end : KeyScan → KeyScan
field_end s = cond (leb s.line 3 && ltb s.field (last_field s.line)) (closed s s.line (s.field + 1)) (broken s)

unfoldable pub line_end : KeyScan → KeyScan
line_end s = cond (leb s.line 3 && eqb s.field (last_field s.line)) (closed s (s.line + 1) 0) (broken s)

unfoldable pub step : Held → ℕ → Held
step = parted line_feed (on_scan line_end) (parted tab (on_scan field_end) byte_step)

unfoldable pub complete : KeyScan → Bool
complete s = eqb s.line 4 && s.sound
