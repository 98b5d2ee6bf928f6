-- The scanner agrees with the form: a text in any pieces is complete exactly when it is the four lines.
--
-- kinds_of i            the kinds of the fields of line i
-- line-fits            a line read from its first byte to its line feed is sound exactly when it fits
-- next-line            a line that was sound leads to the first byte of the next one
-- complete-form        `complete` after a whole text says whether it has the form of a key
use Rattle.std.specs.Prelude.{◌≡◌, refl, ℕ, zero, suc, ◌+◌, ◌≤◌, ◌<◌, Bool, true, false, cond, ◌&&◌, List, [], ◌∷◌, eqb, leb, drop, get_or}
use Rattle.std.proofs.Math.Path.{ap}
use Rattle.std.proofs.Common.{◌∙◌, add-one, arith, drop-cons}
use Rattle.std.proofs.Math.Decide.{dec_lt}
use Rattle.std.proofs.Math.Bool.{and-false, and-true}
use borrow.Author.Tests.{lt-ltb, le-ltb, le-leb, eq-eqb, ne_eqb}
use Rattle.text.specs.Fold.{fold, fold-keeps}
use Rattle.text.specs.Split.{tab, line_feed, first, rest}
use Rattle.text.specs.Split.Laws.{through, through-keeps, fold-split}
use Rattle.text.specs.Form.{Kind, fits, fits_fields, fits_line, fits_lines, has_form}
use Rattle.keytext.specs.declared.KeyScan.{KeyScan}
use Rattle.keytext.specs.Form.{key_form, last_field}
use Rattle.keytext.specs.Scan.{broken, Held, on_scan, byte_step, accepted, closed, field_end, line_end, step, complete}
use Rattle.keytext.proofs.Laws.Scan.Keeps.{Unsound, OnLine, unsound-byte, unsound-field, unsound-line, line_byte, unsound-line_byte, line-line_byte}
use Rattle.keytext.proofs.Laws.Scan.Fields.{Kept, fresh, kind_at, read, Read, read-field}

abbrev pub kinds_of : ℕ → List Kind
kinds_of i = get_or key_form i []

-- ---- the places of the form

kinds-shape : (i j : ℕ) → i ≤ 3 → j ≤ last_field i → drop j (kinds_of i) ≡ kind_at i j ∷ drop (suc j) (kinds_of i)
kinds-shape zero zero l m = refl
kinds-shape zero (suc zero) l m = refl
kinds-shape zero (suc (suc zero)) l m = refl
kinds-shape zero (suc (suc (suc zero))) l m = refl
kinds-shape zero (suc (suc (suc (suc zero)))) l m = refl
kinds-shape zero (suc (suc (suc (suc (suc zero))))) l m = refl
kinds-shape zero (suc (suc (suc (suc (suc (suc j)))))) l m = absurd (omega arith)
kinds-shape (suc zero) zero l m = refl
kinds-shape (suc zero) (suc zero) l m = refl
kinds-shape (suc zero) (suc (suc j)) l m = absurd (omega arith)
kinds-shape (suc (suc zero)) zero l m = refl
kinds-shape (suc (suc zero)) (suc zero) l m = refl
kinds-shape (suc (suc zero)) (suc (suc j)) l m = absurd (omega arith)
kinds-shape (suc (suc (suc zero))) zero l m = refl
kinds-shape (suc (suc (suc zero))) (suc zero) l m = refl
kinds-shape (suc (suc (suc zero))) (suc (suc j)) l m = absurd (omega arith)
kinds-shape (suc (suc (suc (suc i)))) j l m = absurd (omega arith)

kinds-end : (i : ℕ) → i ≤ 3 → drop (suc (last_field i)) (kinds_of i) ≡ []
kinds-end zero l = refl
kinds-end (suc zero) l = refl
kinds-end (suc (suc zero)) l = refl
kinds-end (suc (suc (suc zero))) l = refl
kinds-end (suc (suc (suc (suc i)))) l = absurd (omega arith)

lines-shape : (i : ℕ) → i ≤ 3 → drop i key_form ≡ kinds_of i ∷ drop (suc i) key_form
lines-shape i l = drop-cons key_form i [] (omega arith)

-- ---- one field

-- a scanner that is still sound after a tab or a line feed stands at the first byte of a field
abbrev kept : Held → Kept
kept h = record { numbers = h.scan.numbers; lengths = h.scan.lengths; matrix = h.matrix; y = h.y; x_a = h.x_a }

module _ (i j : ℕ) (l : i ≤ 3) (m : j ≤ last_field i) (k : Kept) (f : List ℕ) where
  abbrev there : Held
  there = read i j k f

  abbrev facts : Read i j k f
  facts = read-field i j l m k f

  -- the field ended, another begun at the place i', j'
  abbrev next : ℕ → ℕ → Kept
  next i' j' = kept (on_scan (λ s. closed s i' j') there)

  closed-fresh : (i' j' : ℕ) → on_scan (λ s. closed s i' j') there ≡ fresh i' j' (fits (kind_at i j) f) (next i' j')
  unfolding closed
  closed-fresh i' j' =
      ap (λ (b : Bool). fresh i' j' b (next i' j')) (ap (λ (b : Bool). b && accepted there.scan) facts.sound ∙ facts.accepts)

  pub field_next : j < last_field i → on_scan field_end there ≡ fresh i (j + 1) (fits (kind_at i j) f) (next i (j + 1))
  unfolding field_end
  field_next h = rw (facts.line, facts.field, le-leb i 3 l, lt-ltb j (last_field i) h) (closed-fresh i (j + 1))

  pub field-last : (j < last_field i → ⊥) → Unsound (on_scan field_end there)
  unfolding field_end
  field-last h = rw (facts.line, facts.field, le-leb i 3 l, le-ltb j (last_field i) (omega arith))

  pub line-next : (j < last_field i → ⊥) → on_scan line_end there ≡ fresh (i + 1) 0 (fits (kind_at i j) f) (next (i + 1) 0)
  unfolding line_end
  line-next h = rw (facts.line, facts.field, le-leb i 3 l, eq-eqb j (last_field i) (omega arith)) (closed-fresh (i + 1) 0)

  pub line-early : j < last_field i → Unsound (on_scan line_end there)
  unfolding line_end
  line-early h = rw (facts.line, facts.field, le-leb i 3 l, ne_eqb j (last_field i) (omega arith))

-- ---- one line

-- the walk through a line's fields and its line feed
abbrev pub line_walk : Held → List ℕ → List (List ℕ) → Held
line_walk h f fs = on_scan line_end (through (on_scan field_end) byte_step h f fs)

unsound-walk : (h : Held) (f : List ℕ) (fs : List (List ℕ)) → Unsound h → Unsound (line_walk h f fs)
unsound-walk h f fs e =
    unsound-line (through (on_scan field_end) byte_step h f fs) (through-keeps (on_scan field_end) byte_step Unsound unsound-field unsound-byte h f fs e)

last-alone : (i j : ℕ) → i ≤ 3 → j ≤ last_field i → (j < last_field i → ⊥) → drop (suc j) (kinds_of i) ≡ []
last-alone i j l m n = let e : j ≡ last_field i = omega arith in ap (λ (d : ℕ). drop (suc d) (kinds_of i)) e ∙ kinds-end i l

more-kinds : (i j : ℕ) → i ≤ 3 → j < last_field i → fits_fields (drop (suc j) (kinds_of i)) [] ≡ false
more-kinds i j l h = rw (kinds-shape i (suc j) l h)

line-ends : (i j : ℕ) → i ≤ 3 → j ≤ last_field i → (k : Kept) (f : List ℕ) → Dec (j < last_field i)
    → (line_walk (fresh i j true k) f []).scan.sound ≡ fits_fields (drop j (kinds_of i)) (f ∷ [])
line-ends i j l m k f (yes h) =
    line-early i j l m k f h ∙ rw (kinds-shape i j l m, more-kinds i j l h, and-false (fits (kind_at i j) f))
line-ends i j l m k f (no h) =
    ap (λ (z : Held). z.scan.sound) (line-next i j l m k f h)
    ∙ rw (kinds-shape i j l m, last-alone i j l m h, and-true (fits (kind_at i j) f))

line-goes-on : (i j : ℕ) → i ≤ 3 → j ≤ last_field i → (k : Kept) (f f' : List ℕ) (fs : List (List ℕ))
    → (j < last_field i → (k' : Kept) → (line_walk (fresh i (j + 1) true k') f' fs).scan.sound ≡ fits_fields (drop (j + 1) (kinds_of i)) (f' ∷ fs))
    → Dec (j < last_field i) → (b : Bool) → fits (kind_at i j) f ≡ b
    → (line_walk (fresh i j true k) f (f' ∷ fs)).scan.sound ≡ fits_fields (drop j (kinds_of i)) (f ∷ f' ∷ fs)
line-goes-on i j l m k f f' fs ih (yes h) true e =
    ap (λ (z : Held). (line_walk z f' fs).scan.sound)
    (field_next i j l m k f h ∙ ap (λ (b : Bool). fresh i (j + 1) b (next i j l m k f i (j + 1))) e)
    ∙ ih h (next i j l m k f i (j + 1))
    ∙ rw (kinds-shape i j l m, e, add-one j)
line-goes-on i j l m k f f' fs ih (yes h) false e =
    let u : Unsound (on_scan field_end (read i j k f)) = ap (λ (z : Held). z.scan.sound) (field_next i j l m k f h) ∙ e in
    unsound-walk (on_scan field_end (read i j k f)) f' fs u ∙ rw (kinds-shape i j l m, e)
line-goes-on i j l m k f f' fs ih (no h) b e =
    unsound-walk (on_scan field_end (read i j k f)) f' fs (field-last i j l m k f h)
    ∙ rw (kinds-shape i j l m, last-alone i j l m h, and-false (fits (kind_at i j) f))

fields_fit : (i : ℕ) → i ≤ 3 → (fs : List (List ℕ)) (j : ℕ) → j ≤ last_field i → (k : Kept) (f : List ℕ)
    → (line_walk (fresh i j true k) f fs).scan.sound ≡ fits_fields (drop j (kinds_of i)) (f ∷ fs)
fields_fit i l [] j m k f = line-ends i j l m k f (dec_lt j (last_field i))
fields_fit i l (f' ∷ fs) j m k f =
    line-goes-on i j l m k f f' fs (λ h k'. fields_fit i l fs (j + 1) (omega arith) k' f') (dec_lt j (last_field i)) (fits (kind_at i j) f) refl

-- a line and its line feed
abbrev pub line_over : Held → List ℕ → Held
line_over h l = on_scan line_end (fold line_byte h l)

pub line_walk_lem : (h : Held) (l : List ℕ) → line_over h l ≡ line_walk h (first tab l) (rest tab l)
line_walk_lem h l = ap (on_scan line_end) (fold-split tab (on_scan field_end) byte_step h l)

pub line-fits : (i : ℕ) → i ≤ 3 → (k : Kept) (l : List ℕ) → (line_over (fresh i 0 true k) l).scan.sound ≡ fits_line (kinds_of i) l
line-fits i h k l =
    ap (λ (z : Held). z.scan.sound) (line_walk_lem (fresh i 0 true k) l) ∙ fields_fit i h (rest tab l) 0 (omega arith) k (first tab l)

sound-end : (h : Held) → (on_scan line_end h).scan.sound ≡ true → on_scan line_end h ≡ fresh (h.scan.line + 1) 0 true (kept (on_scan line_end h))
unfolding line_end closed
sound-end h e = go (leb h.scan.line 3 && eqb h.scan.field (last_field h.scan.line)) e
  where
    pick : Bool → KeyScan
    pick t = cond t (closed h.scan (h.scan.line + 1) 0) (broken h.scan)

    go : (t : Bool) → (pick t).sound ≡ true → on_scan (λ s. pick t) h ≡ fresh (h.scan.line + 1) 0 true (kept (on_scan (λ s. pick t) h))
    go true e = ap (λ (b : Bool). fresh (h.scan.line + 1) 0 b (kept (on_scan (λ s. pick true) h))) e
    go false e = absurd (let z : ◌≡◌ {A = ℕ} 0 1 = cc in omega arith)

pub next-line : (i : ℕ) → i ≤ 3 → (k : Kept) (l : List ℕ) → fits_line (kinds_of i) l ≡ true
    → line_over (fresh i 0 true k) l ≡ fresh (i + 1) 0 true (kept (line_over (fresh i 0 true k) l))
next-line i h k l e =
    let o : OnLine i (fold line_byte (fresh i 0 true k) l) = fold-keeps line_byte (OnLine i) (line-line_byte i) (fresh i 0 true k) l refl in
    sound-end (fold line_byte (fresh i 0 true k) l) (line-fits i h k l ∙ e)
    ∙ ap (λ (n : ℕ). fresh (n + 1) 0 true (kept (line_over (fresh i 0 true k) l))) o

-- ---- all lines

abbrev pub text_walk : Held → List ℕ → List (List ℕ) → Held
text_walk = through (on_scan line_end) line_byte

unsound-text : (h : Held) (l : List ℕ) (ls : List (List ℕ)) → Unsound h → complete (text_walk h l ls).scan ≡ false
unfolding complete
unsound-text h l ls e =
    let u : Unsound (text_walk h l ls) = through-keeps (on_scan line_end) line_byte Unsound unsound-line unsound-line_byte h l ls e in
    ap (λ (b : Bool). eqb (text_walk h l ls).scan.line 4 && b) u ∙ and-false (eqb (text_walk h l ls).scan.line 4)

none_left : (forms : List (List Kind)) → fits_lines forms [] ≡ false
none_left [] = refl
none_left (ks ∷ forms) = refl

-- the last piece stands on a line that has not ended
not-ended : (i : ℕ) → i ≤ 3 → (k : Kept) (l : List ℕ) → complete (text_walk (fresh i 0 true k) l []).scan ≡ fits_lines (drop i key_form) (l ∷ [])
unfolding complete
not-ended i h k l =
    let o : OnLine i (fold line_byte (fresh i 0 true k) l) = fold-keeps line_byte (OnLine i) (line-line_byte i) (fresh i 0 true k) l refl in
    rw (o, ne_eqb i 4 (omega arith), lines-shape i h, none_left (drop (suc i) key_form), and-false (fits_line (kinds_of i) l))

-- behind the fourth line any byte is one too many
past-byte : (k : Kept) (b : ℕ) → Unsound (line_byte (fresh 4 0 true k) b)
unfolding field_end byte_step
past-byte k b = go (eqb b tab)
  where
    go : (t : Bool) → Unsound (cond t (on_scan field_end (fresh 4 0 true k)) (byte_step (fresh 4 0 true k) b))
    go true = refl
    go false = refl

past-line : (h : Held) → OnLine 4 h → Unsound (on_scan line_end h)
unfolding line_end
past-line h e = rw (e)

past_end : (k : Kept) (l : List ℕ) → complete (text_walk (fresh 4 0 true k) l []).scan ≡ fits_lines [] (l ∷ [])
unfolding complete
past_end k [] = refl
past_end k (b ∷ l) = unsound-text (line_byte (fresh 4 0 true k) b) l [] (past-byte k b)

past_more : (k : Kept) (l l' : List ℕ) (ls : List (List ℕ)) → complete (text_walk (fresh 4 0 true k) l (l' ∷ ls)).scan ≡ fits_lines [] (l ∷ l' ∷ ls)
past_more k l l' ls =
    let o : OnLine 4 (fold line_byte (fresh 4 0 true k) l) = fold-keeps line_byte (OnLine 4) (line-line_byte 4) (fresh 4 0 true k) l refl in
    unsound-text (line_over (fresh 4 0 true k) l) l' ls (past-line (fold line_byte (fresh 4 0 true k) l) o) ∙ left_over l
  where
    left_over : (p : List ℕ) → false ≡ fits_lines [] (p ∷ l' ∷ ls)
    left_over [] = refl
    left_over (b ∷ p) = refl

text-goes-on : (i : ℕ) → i ≤ 3 → (k : Kept) (l l' : List ℕ) (ls : List (List ℕ))
    → ((k' : Kept) → complete (text_walk (fresh (i + 1) 0 true k') l' ls).scan ≡ fits_lines (drop (i + 1) key_form) (l' ∷ ls))
    → (b : Bool) → fits_line (kinds_of i) l ≡ b
    → complete (text_walk (fresh i 0 true k) l (l' ∷ ls)).scan ≡ fits_lines (drop i key_form) (l ∷ l' ∷ ls)
text-goes-on i h k l l' ls ih true e =
    ap (λ (z : Held). complete (text_walk z l' ls).scan) (next-line i h k l e)
    ∙ ih (kept (line_over (fresh i 0 true k) l))
    ∙ rw (lines-shape i h, e, add-one i)
text-goes-on i h k l l' ls ih false e =
    unsound-text (line_over (fresh i 0 true k) l) l' ls (line-fits i h k l ∙ e) ∙ rw (lines-shape i h, e)

lines_fit : (ls : List (List ℕ)) (i : ℕ) → i ≤ 4 → Dec (i < 4) → (k : Kept) (l : List ℕ)
    → complete (text_walk (fresh i 0 true k) l ls).scan ≡ fits_lines (drop i key_form) (l ∷ ls)
lines_fit [] i m (yes h) k l = not-ended i (omega arith) k l
lines_fit [] i m (no h) k l =
    let e : i ≡ 4 = omega arith in
    rw (e) (past_end k l)
lines_fit (l' ∷ ls) i m (yes h) k l =
    text-goes-on i (omega arith) k l l' ls (λ k'. lines_fit ls (i + 1) (omega arith) (dec_lt (i + 1) 4) k' l') (fits_line (kinds_of i) l) refl
lines_fit (l' ∷ ls) i m (no h) k l =
    let e : i ≡ 4 = omega arith in
    rw (e) (past_more k l l' ls)

pub complete-form : (k : Kept) (t : List ℕ) → complete (fold step (fresh 0 0 true k) t).scan ≡ has_form key_form t
unfolding step
complete-form k t =
    ap (λ (z : Held). complete z.scan) (fold-split line_feed (on_scan line_end) line_byte (fresh 0 0 true k) t)
    ∙ lines_fit (rest line_feed t) 0 (omega arith) (dec_lt 0 4) k (first line_feed t)
