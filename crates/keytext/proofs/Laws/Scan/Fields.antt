-- A whole field read at its place.
--
-- Kept                 what has been read: numbers, lengths, and what the slices hold
-- fresh i j b k        at the first byte of field j of line i, b: sound
-- kind_at i j           the kind of field j of line i
-- Read i j k f         what holds where the field f has been read there: the place is kept, and it is accepted exactly when it is of its kind
-- read-field           so it is at every place of the form
-- word_read, number_read, matrix-read, y-read, x_a-read     the state there, by the scanner of its kind
use Rattle.std.specs.Prelude.{◌≡◌, refl, ℕ, zero, suc, ◌≤◌, Bool, true, cond, List, eqb}
use Rattle.std.proofs.Common.{sym, ap, subst, ◌∙◌, arith, ne_eqb}
use Rattle.std.proofs.Math.Decide.{ℕ_discrete}
use Rattle.text.specs.Fold.{fold, fold-map}
use Rattle.text.specs.Form.{Kind, word, hex, fits}
use Rattle.text.specs.Scanner.Word.{word_start, word_step}
use Rattle.text.specs.Scanner.Word.Laws.{word-accepts}
use Rattle.text.specs.Scanner.Decimal.{decimal_start, decimal_step}
use Rattle.text.specs.Scanner.Decimal.Laws.{decimal-accepts}
use Rattle.text.specs.Scanner.Hex.{hex_start, HexHeld, hex_held, hex_step}
use Rattle.text.specs.Scanner.Hex.Laws.{hex-accepts}
use Rattle.text.specs.declared.word.WordScan.{WordScan}
use Rattle.text.specs.declared.decimal.DecimalScan.{DecimalScan}
use Rattle.keytext.specs.declared.KeyScan.{KeyScan}
use Rattle.keytext.specs.Form.{number, word_of, last_field}
use Rattle.keytext.specs.Scan.{with_word, with_number, Held, held, on_scan, on_matrix, on_y, on_x_a, byte_step, accepted}
use Rattle.keytext.proofs.Laws.Scan.Steps.{byte_word, byte-number, byte-matrix, byte-y, byte-x_a}

pub record Kept : Type 0 where
  pub numbers : List ℕ
  pub lengths : List ℕ
  pub matrix : List ℕ
  pub y : List ℕ
  pub x_a : List ℕ

abbrev pub fresh_scan : ℕ → ℕ → Bool → List ℕ → List ℕ → KeyScan
fresh_scan i j b ns ls =
    record { sound = b; line = i; field = j; word = word_start; number = decimal_start; hex = hex_start; numbers = ns; lengths = ls }

abbrev pub fresh : ℕ → ℕ → Bool → Kept → Held
fresh i j b k = held (fresh_scan i j b k.numbers k.lengths) k.matrix k.y k.x_a

abbrev pub kind_at : ℕ → ℕ → Kind
kind_at i j = cond (eqb j 0) (word (word_of i)) (cond (eqb i 0) number hex)

abbrev pub read : ℕ → ℕ → Kept → List ℕ → Held
read i j k f = fold byte_step (fresh i j true k) f

pub record Read (i j : ℕ) (k : Kept) (f : List ℕ) : Type 0 where
  pub line : (read i j k f).scan.line ≡ i
  pub field : (read i j k f).scan.field ≡ j
  pub sound : (read i j k f).scan.sound ≡ true
  pub accepts : accepted (read i j k f).scan ≡ fits (kind_at i j) f

-- ---- the state by the scanner of the kind

abbrev pub word_at : ℕ → Kept → WordScan → Held
word_at i k w = on_scan (λ s. with_word s w) (fresh i 0 true k)

abbrev pub number_at : ℕ → Kept → DecimalScan → Held
number_at j k n = on_scan (λ s. with_number s n) (fresh 0 j true k)

pub word_read : (i : ℕ) → i ≤ 3 → (k : Kept) (f : List ℕ) → read i 0 k f ≡ word_at i k (fold (word_step (word_of i)) word_start f)
word_read i l k f = fold-map (word_at i k) (word_step (word_of i)) byte_step (λ w x. sym (byte_word (word_at i k w) x l refl refl)) word_start f

pub number_read : (j : ℕ) → (j ≡ 0 → ⊥) → (k : Kept) (f : List ℕ) → read 0 j k f ≡ number_at j k (fold (decimal_step 3) decimal_start f)
number_read j n k f =
    fold-map (number_at j k) (decimal_step 3) byte_step (λ s x. sym (byte-number (number_at j k s) x (omega arith) n refl refl)) decimal_start f

pub matrix-read : (k : Kept) (f : List ℕ) → read 1 1 k f ≡ on_matrix (fresh 1 1 true k) (fold hex_step (hex_held hex_start k.matrix) f)
matrix-read k f =
    let put : HexHeld → Held = on_matrix (fresh 1 1 true k) in
    fold-map put hex_step byte_step (λ p x. sym (byte-matrix (put p) x (omega arith) (λ e. omega arith) (λ e. omega arith) refl refl)) (hex_held hex_start k.matrix) f

pub y-read : (k : Kept) (f : List ℕ) → read 2 1 k f ≡ on_y (fresh 2 1 true k) (fold hex_step (hex_held hex_start k.y) f)
y-read k f =
    let put : HexHeld → Held = on_y (fresh 2 1 true k) in
    fold-map put hex_step byte_step (λ p x. sym (byte-y (put p) x (omega arith) (λ e. omega arith) (λ e. omega arith) (λ e. omega arith) refl refl)) (hex_held hex_start k.y) f

pub x_a-read : (k : Kept) (f : List ℕ) → read 3 1 k f ≡ on_x_a (fresh 3 1 true k) (fold hex_step (hex_held hex_start k.x_a) f)
x_a-read k f =
    let put : HexHeld → Held = on_x_a (fresh 3 1 true k) in
    fold-map put hex_step byte_step (λ p x. sym (byte-x_a (put p) x (omega arith) (λ e. omega arith) (λ e. omega arith) (λ e. omega arith) (λ e. omega arith) refl))
    (hex_held hex_start k.x_a) f

-- ---- what holds of each

of-state : (i j : ℕ) (k : Kept) (f : List ℕ) {h : Held} → read i j k f ≡ h → h.scan.line ≡ i → h.scan.field ≡ j → h.scan.sound ≡ true
    → accepted h.scan ≡ fits (kind_at i j) f → Read i j k f
of-state i j k f e l d s a =
    record {
      line = ap (λ (h : Held). h.scan.line) e ∙ l;
      field = ap (λ (h : Held). h.scan.field) e ∙ d;
      sound = ap (λ (h : Held). h.scan.sound) e ∙ s;
      accepts = ap (λ (h : Held). accepted h.scan) e ∙ a;
    }

read_word : (i : ℕ) → i ≤ 3 → (k : Kept) (f : List ℕ) → Read i 0 k f
unfolding accepted
read_word i l k f = of-state i 0 k f (word_read i l k f) refl refl refl (word-accepts (word_of i) f)

read_number : (j : ℕ) → (j ≡ 0 → ⊥) → (k : Kept) (f : List ℕ) → Read 0 j k f
unfolding accepted
read_number j n k f =
    of-state 0 j k f (number_read j n k f) refl refl refl (rw (ne_eqb j 0 n) (decimal-accepts 3 f (omega arith) (omega arith)))

read-hex : (i : ℕ) → 1 ≤ i → i ≤ 3 → (k : Kept) (f : List ℕ) → Read i 1 k f
unfolding accepted
read-hex zero l m k f = absurd (omega arith)
read-hex (suc zero) l m k f = of-state 1 1 k f (matrix-read k f) refl refl refl (hex-accepts f k.matrix)
read-hex (suc (suc zero)) l m k f = of-state 2 1 k f (y-read k f) refl refl refl (hex-accepts f k.y)
read-hex (suc (suc (suc zero))) l m k f = of-state 3 1 k f (x_a-read k f) refl refl refl (hex-accepts f k.x_a)
read-hex (suc (suc (suc (suc i)))) l m k f = absurd (omega arith)

pub read-field : (i j : ℕ) → i ≤ 3 → j ≤ last_field i → (k : Kept) (f : List ℕ) → Read i j k f
read-field i j l m k f = go (ℕ_discrete j 0) (ℕ_discrete i 0)
  where
    go : Dec (j ≡ 0) → Dec (i ≡ 0) → Read i j k f
    go (yes p) d = subst (λ (n : ℕ). Read i n k f) (sym p) (read_word i l k f)
    go (no p) (yes q) = subst (λ (n : ℕ). Read n j k f) (sym q) (read_number j p k f)
    go (no p) (no q) =
        let n : j ≤ 1 = rw (ne_eqb i 0 q) at m in
        let e : j ≡ 1 = omega arith in
        subst (λ (n : ℕ). Read i n k f) (sym e) (read-hex i (omega arith) l k f)
