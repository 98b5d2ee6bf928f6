-- What the scanner has read when the text is the four lines.
--
-- count_in d s          the bytes s counted up to one more than the slice d holds
-- stored d f           what the slice d holds after the hex field f
-- key_read t m y x      the numbers, lengths and slices after the text t
-- key-read             the scanner's state after a text that has the form of a key
-- stored-front         the bytes of a hex field stand at the front of a slice that has room for them
-- length-stored        the slice keeps its length
-- matrix-hex, y-hex, x_a-hex    the hex fields of such a text are hex
use Rattle.std.specs.Prelude.{◌≡◌, refl, ℕ, zero, suc, ◌+◌, ◌-◌, ◌≤◌, ◌<◌, min, Bool, true, false, cond, ◌&&◌, List, [], ◌∷◌, eqb, length, take, drop, get_or, set}
use Rattle.std.proofs.Common.{sym, ap, ◌∙◌, arith, take_at, lt-ltb, le-leb, ne_eqb}
use Rattle.std.proofs.Math.Bool.{and-false}
use Rattle.std.proofs.lemmas.List.Edits.{sets-eq}
use Rattle.lists.specs.Checks.Laws.{and_left, and_right}
use Rattle.lists.specs.Equal.{eq_list}
use Rattle.text.specs.Fold.{fold}
use Rattle.text.specs.Split.{tab, line_feed, first, rest, split}
use Rattle.text.specs.Split.Laws.{fold-split}
use Rattle.text.specs.Decimal.{is_decimal, value_of}
use Rattle.text.specs.Hex.{is_hex, bytes_of}
use Rattle.text.specs.Form.{Kind, word, hex, fits, fits_fields, fits_line, fits_lines, has_form, line_at, field_at}
use Rattle.text.specs.Scanner.Word.Laws.{word-accepts}
use Rattle.text.specs.Scanner.Decimal.Laws.{decimal-accepts, decimal-value}
use Rattle.text.specs.Scanner.Hex.{hex_start, hex_held, hex_step}
use Rattle.text.specs.Scanner.Hex.Laws.{hex-accepts, hex-scan, hex-stored, length-hex_out}
use Rattle.text.specs.declared.hex.HexScan.{HexScan}
use Rattle.keytext.specs.declared.KeyScan.{KeyScan}
use Rattle.keytext.specs.Form.{key_form, word_of, last_field, numbers_in, bytes_at}
use Rattle.keytext.specs.Scan.{start, with_hex, Held, held, on_scan, accepted, saved_numbers, saved_lengths, closed, field_end, line_end, step}
use Rattle.keytext.proofs.Laws.Scan.Keeps.{line_byte}
use Rattle.keytext.proofs.Laws.Scan.Fields.{Kept, fresh_scan, fresh, read, word_read, number_read, matrix-read, y-read, x_a-read}
use Rattle.keytext.proofs.Laws.Scan.Complete.{kinds_of, line_walk, line_over, line_walk_lem, text_walk}

abbrev pub count_in : List ℕ → List ℕ → ℕ
count_in d s = min (length s) (length d + 1)

unfoldable pub stored : List ℕ → List ℕ → List ℕ
stored d f = (fold hex_step (hex_held hex_start d) f).out

abbrev pub key_read : List ℕ → List ℕ → List ℕ → List ℕ → Kept
key_read t m y x =
    record {
      numbers = numbers_in t;
      lengths = count_in m (bytes_at t 1) ∷ count_in y (bytes_at t 2) ∷ count_in x (bytes_at t 3) ∷ [];
      matrix = stored m (field_at t 1 1);
      y = stored y (field_at t 2 1);
      x_a = stored x (field_at t 3 1);
    }

-- ---- what a slice holds after a hex field

pub stored-front : (d f : List ℕ) → length (bytes_of f) ≤ length d → is_hex f ≡ true → take (length (bytes_of f)) (stored d f) ≡ bytes_of f
unfolding stored
stored-front d f h e =
    let k : 0 + length (bytes_of f) ≤ length d = omega arith in
    ap (take (length (bytes_of f))) (hex-stored f d h e ∙ sets-eq (bytes_of f) d 0 k)
    ∙ take_at (bytes_of f) (drop (0 + length (bytes_of f)) d) (length (bytes_of f)) refl

pub length-stored : (d f : List ℕ) → length (stored d f) ≡ length d
unfolding stored
length-stored d f = length-hex_out f (hex_held hex_start d)

-- ---- the end of a field of its kind

some-field : (i : ℕ) → 0 < last_field i
some-field i = go (eqb i 0)
  where
    go : (t : Bool) → 0 < cond t 5 1
    go true = omega arith
    go false = omega arith

end-word : (i : ℕ) → i ≤ 3 → (k : Kept) (f : List ℕ) → eq_list f (word_of i) ≡ true → on_scan field_end (read i 0 k f) ≡ fresh i 1 true k
unfolding field_end closed accepted saved_numbers saved_lengths
end-word i l k f e =
    ap (on_scan field_end) (word_read i l k f)
    ∙ rw (le-leb i 3 l, lt-ltb 0 (last_field i) (some-field i), word-accepts (word_of i) f, e, and-false (eqb i 0))

-- number j of the set line
abbrev with_number : Kept → ℕ → ℕ → Kept
with_number k j v = record { numbers = set k.numbers (j - 1) v; lengths = k.lengths; matrix = k.matrix; y = k.y; x_a = k.x_a }

end-number : (j : ℕ) → 1 ≤ j → j < 5 → (k : Kept) (f : List ℕ) → is_decimal 3 f ≡ true
    → on_scan field_end (read 0 j k f) ≡ fresh 0 (j + 1) true (with_number k j (value_of f))
unfolding field_end closed accepted saved_numbers saved_lengths
end-number j l m k f e =
    ap (on_scan field_end) (number_read j (λ z. omega arith) k f)
    ∙ rw (
      lt-ltb j 5 m,
      ne_eqb j 0 (λ z. omega arith),
      decimal-accepts 3 f (omega arith) (omega arith),
      e,
      le-leb 1 j l,
      le-leb j 5 (omega arith),
      decimal-value 3 f (omega arith) (omega arith) e,
    )

end-set : (k : Kept) (f : List ℕ) → is_decimal 3 f ≡ true → on_scan line_end (read 0 5 k f) ≡ fresh 1 0 true (with_number k 5 (value_of f))
unfolding line_end closed accepted saved_numbers saved_lengths
end-set k f e =
    ap (on_scan line_end) (number_read 5 (λ z. omega arith) k f)
    ∙ rw (decimal-accepts 3 f (omega arith) (omega arith), e, decimal-value 3 f (omega arith) (omega arith) e)

-- a line of hex
end-hex : (i : ℕ) → 1 ≤ i → i ≤ 3 → (ns ls d f : List ℕ) → is_hex f ≡ true
    → line_end (with_hex (fresh_scan i 1 true ns ls) (fold hex_step (hex_held hex_start d) f).scan)
    ≡ fresh_scan (i + 1) 0 true ns (set ls (i - 1) (count_in d (bytes_of f)))
unfolding line_end closed accepted saved_numbers saved_lengths
end-hex i l m ns ls d f e =
    let c : (fold hex_step (hex_held hex_start d) f).scan.count ≡ count_in d (bytes_of f) = ap (λ (s : HexScan). s.count) (hex-scan f d e) in
    rw (le-leb i 3 m, ne_eqb i 0 (λ z. omega arith), hex-accepts f d, e, le-leb 1 i l, c)

end-matrix : (k : Kept) (f : List ℕ) → is_hex f ≡ true
    → on_scan line_end (read 1 1 k f)
    ≡ fresh 2 0 true (record { numbers = k.numbers; lengths = set k.lengths 0 (count_in k.matrix (bytes_of f)); matrix = stored k.matrix f; y = k.y; x_a = k.x_a })
unfolding stored
end-matrix k f e =
    ap (on_scan line_end) (matrix-read k f)
    ∙ ap (λ (s : KeyScan). held s (stored k.matrix f) k.y k.x_a) (end-hex 1 (omega arith) (omega arith) k.numbers k.lengths k.matrix f e)

end-y : (k : Kept) (f : List ℕ) → is_hex f ≡ true
    → on_scan line_end (read 2 1 k f)
    ≡ fresh 3 0 true (record { numbers = k.numbers; lengths = set k.lengths 1 (count_in k.y (bytes_of f)); matrix = k.matrix; y = stored k.y f; x_a = k.x_a })
unfolding stored
end-y k f e =
    ap (on_scan line_end) (y-read k f)
    ∙ ap (λ (s : KeyScan). held s k.matrix (stored k.y f) k.x_a) (end-hex 2 (omega arith) (omega arith) k.numbers k.lengths k.y f e)

end-x_a : (k : Kept) (f : List ℕ) → is_hex f ≡ true
    → on_scan line_end (read 3 1 k f)
    ≡ fresh 4 0 true (record { numbers = k.numbers; lengths = set k.lengths 2 (count_in k.x_a (bytes_of f)); matrix = k.matrix; y = k.y; x_a = stored k.x_a f })
unfolding stored
end-x_a k f e =
    ap (on_scan line_end) (x_a-read k f)
    ∙ ap (λ (s : KeyScan). held s k.matrix k.y (stored k.x_a f)) (end-hex 3 (omega arith) (omega arith) k.numbers k.lengths k.x_a f e)

-- ---- the lines

length_fields : (ks : List Kind) (fs : List (List ℕ)) → fits_fields ks fs ≡ true → length fs ≡ length ks
length_fields [] [] e = refl
length_fields [] (f ∷ fs) e = absurd (let z : ◌≡◌ {A = ℕ} 0 1 = cc in omega arith)
length_fields (k ∷ ks) [] e = absurd (let z : ◌≡◌ {A = ℕ} 0 1 = cc in omega arith)
length_fields (k ∷ ks) (f ∷ fs) e = ap suc (length_fields ks fs (and_right (fits k f) (fits_fields ks fs) e))

set_walk : (k : Kept) (w : List ℕ) (fs : List (List ℕ)) → fits_fields (kinds_of 0) (w ∷ fs) ≡ true
    → line_walk (fresh 0 0 true k) w fs
    ≡ fresh 1 0 true
    (with_number (with_number (with_number (with_number (with_number k 1 (value_of (get_or fs 0 []))) 2 (value_of (get_or fs 1 []))) 3 (value_of (get_or fs 2 []))) 4
    (value_of (get_or fs 3 []))) 5 (value_of (get_or fs 4 [])))
set_walk k w [] e = absurd (let h = length_fields (kinds_of 0) (w ∷ []) e in omega arith)
set_walk k w (a ∷ []) e = absurd (let h = length_fields (kinds_of 0) (w ∷ a ∷ []) e in omega arith)
set_walk k w (a ∷ b ∷ []) e = absurd (let h = length_fields (kinds_of 0) (w ∷ a ∷ b ∷ []) e in omega arith)
set_walk k w (a ∷ b ∷ c ∷ []) e = absurd (let h = length_fields (kinds_of 0) (w ∷ a ∷ b ∷ c ∷ []) e in omega arith)
set_walk k w (a ∷ b ∷ c ∷ d ∷ []) e = absurd (let h = length_fields (kinds_of 0) (w ∷ a ∷ b ∷ c ∷ d ∷ []) e in omega arith)
set_walk k w (a ∷ b ∷ c ∷ d ∷ g ∷ x ∷ fs) e = absurd (let h = length_fields (kinds_of 0) (w ∷ a ∷ b ∷ c ∷ d ∷ g ∷ x ∷ fs) e in omega arith)
set_walk k w (a ∷ b ∷ c ∷ d ∷ g ∷ []) e =
    let D : List ℕ → Bool = is_decimal 3 in
    let e₁ = and_right (eq_list w (word_of 0)) (D a && (D b && (D c && (D d && (D g && true))))) e in
    let e₂ = and_right (D a) (D b && (D c && (D d && (D g && true)))) e₁ in
    let e₃ = and_right (D b) (D c && (D d && (D g && true))) e₂ in
    let e₄ = and_right (D c) (D d && (D g && true)) e₃ in
    let e₅ = and_right (D d) (D g && true) e₄ in
    let k₁ : Kept = with_number k 1 (value_of a) in
    let k₂ : Kept = with_number k₁ 2 (value_of b) in
    let k₃ : Kept = with_number k₂ 3 (value_of c) in
    let k₄ : Kept = with_number k₃ 4 (value_of d) in
    ap (λ (h : Held). line_walk h a (b ∷ c ∷ d ∷ g ∷ [])) (end-word 0 (omega arith) k w (and_left (eq_list w (word_of 0)) (D a && (D b && (D c && (D d && (D g && true))))) e))
    ∙ ap (λ (h : Held). line_walk h b (c ∷ d ∷ g ∷ [])) (end-number 1 (omega arith) (omega arith) k a (and_left (D a) (D b && (D c && (D d && (D g && true)))) e₁))
    ∙ ap (λ (h : Held). line_walk h c (d ∷ g ∷ [])) (end-number 2 (omega arith) (omega arith) k₁ b (and_left (D b) (D c && (D d && (D g && true))) e₂))
    ∙ ap (λ (h : Held). line_walk h d (g ∷ [])) (end-number 3 (omega arith) (omega arith) k₂ c (and_left (D c) (D d && (D g && true)) e₃))
    ∙ ap (λ (h : Held). line_walk h g []) (end-number 4 (omega arith) (omega arith) k₃ d (and_left (D d) (D g && true) e₄))
    ∙ end-set k₄ g (and_left (D g) true e₅)

-- a line of a word and hex, by what its hex field comes to
hex-walk : (i : ℕ) → 1 ≤ i → i ≤ 3 → (k : Kept) (w : List ℕ) (fs : List (List ℕ)) (g : List ℕ → Held)
    → ((f : List ℕ) → is_hex f ≡ true → on_scan line_end (read i 1 k f) ≡ g f)
    → length fs ≡ 1 → eq_list w (word_of i) ≡ true → is_hex (get_or fs 0 []) ≡ true
    → line_walk (fresh i 0 true k) w fs ≡ g (get_or fs 0 [])
hex-walk i l m k w [] g e n ew eh = absurd (omega arith)
hex-walk i l m k w (f ∷ f' ∷ fs) g e n ew eh = absurd (omega arith)
hex-walk i l m k w (f ∷ []) g e n ew eh = ap (λ (h : Held). line_walk h f []) (end-word i m k w ew) ∙ e f eh

hex-facts : (v w : List ℕ) (fs : List (List ℕ)) → fits_fields (word v ∷ hex ∷ []) (w ∷ fs) ≡ true
    → (length fs ≡ 1) × (eq_list w v ≡ true) × (is_hex (get_or fs 0 []) ≡ true)
hex-facts v w [] e = absurd (let h = length_fields (word v ∷ hex ∷ []) (w ∷ []) e in omega arith)
hex-facts v w (f ∷ f' ∷ fs) e = absurd (let h = length_fields (word v ∷ hex ∷ []) (w ∷ f ∷ f' ∷ fs) e in omega arith)
hex-facts v w (f ∷ []) e =
    (refl, and_left (eq_list w v) (is_hex f && true) e, and_left (is_hex f) true (and_right (eq_list w v) (is_hex f && true) e))

-- field 1 of a line
abbrev one : List ℕ → List ℕ
one l = get_or (split tab l) 1 []

-- a line of a word and hex, read from its first byte to its line feed
hex-line : (i : ℕ) → 1 ≤ i → i ≤ 3 → (k : Kept) (l : List ℕ) (g : List ℕ → Held)
    → ((f : List ℕ) → is_hex f ≡ true → on_scan line_end (read i 1 k f) ≡ g f)
    → fits_fields (word (word_of i) ∷ hex ∷ []) (split tab l) ≡ true → line_over (fresh i 0 true k) l ≡ g (one l)
hex-line i l m k t g e h =
    let q = hex-facts (word_of i) (first tab t) (rest tab t) h in
    line_walk_lem (fresh i 0 true k) t ∙ hex-walk i l m k (first tab t) (rest tab t) g e q.0 q.1 q.2

-- ---- the text

length-lines : (forms : List (List Kind)) (ps : List (List ℕ)) → fits_lines forms ps ≡ true → length ps ≡ length forms + 1
length-lines [] [] e = absurd (let z : ◌≡◌ {A = ℕ} 0 1 = cc in omega arith)
length-lines [] ([] ∷ []) e = refl
length-lines [] ([] ∷ p ∷ ps) e = absurd (let z : ◌≡◌ {A = ℕ} 0 1 = cc in omega arith)
length-lines [] ((b ∷ p) ∷ ps) e = absurd (let z : ◌≡◌ {A = ℕ} 0 1 = cc in omega arith)
length-lines (ks ∷ forms) [] e = absurd (let z : ◌≡◌ {A = ℕ} 0 1 = cc in omega arith)
length-lines (ks ∷ forms) (l ∷ ps) e = let h = length-lines forms ps (and_right (fits_line ks l) (fits_lines forms ps) e) in omega arith

-- the numbers of the set line l
abbrev number_in : List ℕ → ℕ → ℕ
number_in l j = value_of (get_or (split tab l) j [])

-- what is kept after the set line a, the matrix b, y c and x_A d
abbrev after : Kept → List ℕ → List ℕ → List ℕ → List ℕ → Kept
after k a b c d =
    record {
      numbers = set (set (set (set (set k.numbers 0 (number_in a 1)) 1 (number_in a 2)) 2 (number_in a 3)) 3 (number_in a 4)) 4 (number_in a 5);
      lengths =
          set (set (set k.lengths 0 (count_in k.matrix (bytes_of (one b)))) 1 (count_in k.y (bytes_of (one c)))) 2 (count_in k.x_a (bytes_of (one d)));
      matrix = stored k.matrix (one b);
      y = stored k.y (one c);
      x_a = stored k.x_a (one d);
    }

four-lines : (k : Kept) (a b c d : List ℕ) → fits_line (kinds_of 0) a ≡ true → fits_line (kinds_of 1) b ≡ true → fits_line (kinds_of 2) c ≡ true
    → fits_line (kinds_of 3) d ≡ true → line_over (line_over (line_over (line_over (fresh 0 0 true k) a) b) c) d ≡ fresh 4 0 true (after k a b c d)
four-lines k a b c d ea eb ec ed =
    let k₁ : Kept =
    record { numbers = (after k a b c d).numbers; lengths = k.lengths; matrix = k.matrix; y = k.y; x_a = k.x_a } in
    let k₂ : Kept =
    record { numbers = k₁.numbers; lengths = set k.lengths 0 (count_in k.matrix (bytes_of (one b))); matrix = stored k.matrix (one b); y = k.y; x_a = k.x_a } in
    let k₃ : Kept =
    record { numbers = k₁.numbers; lengths = set k₂.lengths 1 (count_in k.y (bytes_of (one c))); matrix = k₂.matrix; y = stored k.y (one c); x_a = k.x_a } in
    ap (λ (h : Held). line_over (line_over (line_over h b) c) d) (line_walk_lem (fresh 0 0 true k) a ∙ set_walk k (first tab a) (rest tab a) ea)
    ∙ ap (λ (h : Held). line_over (line_over h c) d) (hex-line 1 (omega arith) (omega arith) k₁ b _ (end-matrix k₁) eb)
    ∙ ap (λ (h : Held). line_over h d) (hex-line 2 (omega arith) (omega arith) k₂ c _ (end-y k₂) ec)
    ∙ hex-line 3 (omega arith) (omega arith) k₃ d _ (end-x_a k₃) ed

text-walk : (k : Kept) (a : List ℕ) (ls : List (List ℕ)) → fits_lines key_form (a ∷ ls) ≡ true
    → text_walk (fresh 0 0 true k) a ls ≡ fresh 4 0 true (after k a (get_or ls 0 []) (get_or ls 1 []) (get_or ls 2 []))
text-walk k a [] e = absurd (let h = length-lines key_form (a ∷ []) e in omega arith)
text-walk k a (b ∷ []) e = absurd (let h = length-lines key_form (a ∷ b ∷ []) e in omega arith)
text-walk k a (b ∷ c ∷ []) e = absurd (let h = length-lines key_form (a ∷ b ∷ c ∷ []) e in omega arith)
text-walk k a (b ∷ c ∷ d ∷ []) e = absurd (let h = length-lines key_form (a ∷ b ∷ c ∷ d ∷ []) e in omega arith)
text-walk k a (b ∷ c ∷ d ∷ p ∷ q ∷ ls) e = absurd (let h = length-lines key_form (a ∷ b ∷ c ∷ d ∷ p ∷ q ∷ ls) e in omega arith)
text-walk k a (b ∷ c ∷ d ∷ (x ∷ p) ∷ []) e =
    absurd
    (let F : List ℕ → ℕ → Bool = λ l i. fits_line (kinds_of i) l in
    let z = and_right (F d 3) false (and_right (F c 2) (F d 3 && false) (and_right (F b 1) (F c 2 && (F d 3 && false)) (and_right (F a 0) (F b 1 && (F c 2 && (F d 3 && false))) e))) in
    let n : ◌≡◌ {A = ℕ} 0 1 = cc in omega arith)
text-walk k a (b ∷ c ∷ d ∷ [] ∷ []) e =
    let F : List ℕ → ℕ → Bool = λ l i. fits_line (kinds_of i) l in
    let e₁ = and_right (F a 0) (F b 1 && (F c 2 && (F d 3 && true))) e in
    let e₂ = and_right (F b 1) (F c 2 && (F d 3 && true)) e₁ in
    let e₃ = and_right (F c 2) (F d 3 && true) e₂ in
    four-lines k a b c d (and_left (F a 0) (F b 1 && (F c 2 && (F d 3 && true))) e) (and_left (F b 1) (F c 2 && (F d 3 && true)) e₁)
    (and_left (F c 2) (F d 3 && true) e₂) (and_left (F d 3) true e₃)

pub key-read : (t m y x : List ℕ) → has_form key_form t ≡ true → fold step (held start m y x) t ≡ fresh 4 0 true (key_read t m y x)
unfolding step
key-read t m y x e =
    let k : Kept = record { numbers = start.numbers; lengths = start.lengths; matrix = m; y = y; x_a = x } in
    fold-split line_feed (on_scan line_end) line_byte (held start m y x) t ∙ text-walk k (first line_feed t) (rest line_feed t) e

-- ---- the hex fields of a text that has the form

lines_at : (forms : List (List Kind)) (ps : List (List ℕ)) → fits_lines forms ps ≡ true → (i : ℕ) → i < length forms
    → fits_line (get_or forms i []) (get_or ps i []) ≡ true
lines_at [] ps e i h = absurd (omega arith)
lines_at (ks ∷ forms) [] e i h = absurd (let z : ◌≡◌ {A = ℕ} 0 1 = cc in omega arith)
lines_at (ks ∷ forms) (l ∷ ps) e zero h = and_left (fits_line ks l) (fits_lines forms ps) e
lines_at (ks ∷ forms) (l ∷ ps) e (suc i) h = lines_at forms ps (and_right (fits_line ks l) (fits_lines forms ps) e) i (omega arith)

-- the hex field of line i
hex-at : (i : ℕ) → i < 4 → get_or key_form i [] ≡ word (word_of i) ∷ hex ∷ [] → (t : List ℕ) → has_form key_form t ≡ true → is_hex (field_at t i 1) ≡ true
hex-at i l k t e =
    let p : List ℕ = line_at t i in
    let f : fits_line (get_or key_form i []) p ≡ true = lines_at key_form (split line_feed t) e i l in
    (hex-facts (word_of i) (first tab p) (rest tab p) (ap (λ (ks : List Kind). fits_line ks p) (sym k) ∙ f)).2

pub matrix-hex : (t : List ℕ) → has_form key_form t ≡ true → is_hex (field_at t 1 1) ≡ true
matrix-hex = hex-at 1 (omega arith) refl

pub y-hex : (t : List ℕ) → has_form key_form t ≡ true → is_hex (field_at t 2 1) ≡ true
y-hex = hex-at 2 (omega arith) refl

pub x_a-hex : (t : List ℕ) → has_form key_form t ≡ true → is_hex (field_at t 3 1) ≡ true
x_a-hex = hex-at 3 (omega arith) refl
