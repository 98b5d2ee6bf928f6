-- What was scanned in pieces gives the listing of the whole.
--
-- finished h           the output from a scanner's state and the slices
-- finish-listing       the output after a text t, from slices that hold the largest matrix, y and x_A, is the listing of t
-- read-row             the checks 10, 1 and 2 from their tests
-- Read, read_done      what is known where they pass
-- read-within, read_held       the parameters are within their limits, and the slices hold what they say
-- finish-malformed, finish-refused, finish-weighed, weighed-light, weighed-heavy      the output by its cases
-- read_fits            the slices hold what the parameters say
-- room                 zeros have room for as many bytes
-- fits-room            a listing lies within what it was written to
use Rattle.std.specs.Prelude.{◌≡◌, false, Ok, Err, ◌&&◌, length, take, drop, get_or, replicate}
use Rattle.std.proofs.Math.Path.{refl, ap}
use Rattle.std.proofs.Common.{sym, ◌∙◌, arith, length-append, le-leb, ne_eqb, eqb-true, leb-true}
use Prim.Native.Nat.{ℕ, ◌+◌, ◌≤◌}
use Rattle.std.proofs.Math.Decide.{dec_le}
use Rattle.std.proofs.Math.Bool.{Bool, true, and-true}
use mathlib.Core.List.{List, [], ◌∷◌}
use Rattle.std.proofs.Math.Dec.{eqb, leb}
use Rattle.lists.specs.Part.{put_at}
use Rattle.std.proofs.lemmas.List.{length-replicate}
use Rattle.lists.specs.Checks.Laws.{and_left, and_right}
use Rattle.answers.specs.declared.Refusal.{Refusal}
use Rattle.answers.specs.Answer.{Answer}
use Rattle.answers.specs.declared.Refusal.TheVariants.{Parameter, Length, Weight, Malformed}
use Rattle.answers.specs.Checks.{check, checks}
use Rattle.answers.specs.Checks.Laws.{Ok≢Err}
use Rattle.parameters.specs.declared.Parameters.{Parameters}
use Rattle.parameters.specs.Limits.{within_limits, Within}
use Rattle.parameters.specs.Limits.Laws.{test-within}
use Rattle.parameters.specs.Set.{parameters_of}
use Rattle.layout.specs.Layout.{y_length, matrix_length}
use Rattle.layout.specs.Layout.Bounds.{matrix-most}
use Rattle.layout.specs.Maxima.{most_matrix, longest_y}
use Rattle.relation.specs.Key.{weight_of}
use Rattle.relation.specs.Admission.{key_lengths, key_checks}
use Rattle.text.specs.Fold.{fold}
use Rattle.text.specs.Hex.{is_hex, bytes_of}
use Rattle.text.specs.Form.{has_form, field_at}
use Rattle.keytext.specs.declared.KeyScan.{KeyScan}
use Rattle.keytext.specs.Form.{key_form, bytes_at}
use Rattle.keytext.specs.Scan.{start, Held, held, step, complete}
use Rattle.keytext.proofs.Laws.Scan.Fields.{Kept, fresh}
use Rattle.keytext.proofs.Laws.Scan.Complete.{complete-form}
use Rattle.keytext.proofs.Laws.Scan.Values.{count_in, stored, key_read, key-read, stored-front, length-stored, matrix-hex, y-hex, x_a-hex}
use Rattle.keytext.specs.Listing.{refused_line, key_lines, parameters_in, vector_in, printed, listing_of}
use Rattle.keytext.specs.Finish.{read_in, lengths_read, vector_read, weighed, read_checks, finish_of}

-- ---- a field read into a slice that has room for what the parameters say

count-test : (d s : List ℕ) (n : ℕ) → n ≤ length d → Dec (length s ≤ length d) → read_in (count_in d s) (length d) n ≡ eqb (length s) n
count-test d s n h (yes l) =
    let e : count_in d s ≡ length s = omega arith in
    rw (le-leb n (length d) h, e) (and-true (eqb (length s) n))
count-test d s n h (no l) =
    let e : count_in d s ≡ length d + 1 = omega arith in
    rw (e, ne_eqb (length d + 1) n (λ q. omega arith), ne_eqb (length s) n (λ q. omega arith))

front : (d f : List ℕ) (n : ℕ) → n ≤ length d → is_hex f ≡ true → eqb (length (bytes_of f)) n ≡ true → take n (stored d f) ≡ bytes_of f
front d f n h e q =
    let l : length (bytes_of f) ≡ n = eqb-true (length (bytes_of f)) n q in
    ap (λ (m : ℕ). take m (stored d f)) (sym l) ∙ stored-front d f (omega arith) e

-- ---- the checks

-- two rows of checks whose tests agree as far as the first that fails, and what is printed where all pass
same-printed : (w : ℕ) {a b c a' b' c' : Bool} {x x' : List ℕ} → a ≡ a' → (a' ≡ true → b ≡ b') → (a' ≡ true → b' ≡ true → (c ≡ c') × (x ≡ x'))
    → printed (checks ((a, Parameter) ∷ (b, Length) ∷ (c, Weight) ∷ [])) w x ≡ printed (checks ((a', Parameter) ∷ (b', Length) ∷ (c', Weight) ∷ [])) w x'
same-printed w {a} {b} {c} {a'} {b'} {c'} {x} {x'} ea eb er = go a' refl b' refl
  where
    go : (s : Bool) → a' ≡ s → (t : Bool) → b' ≡ t
        → printed (checks ((a, Parameter) ∷ (b, Length) ∷ (c, Weight) ∷ [])) w x ≡ printed (checks ((a', Parameter) ∷ (b', Length) ∷ (c', Weight) ∷ [])) w x'
    go false es t et = rw (ea, es)
    go true es false et = rw (ea, es, eb es, et)
    go true es true et = rw (ea, es, eb es, et, (er es et).0, (er es et).1)

module _ (t m y x : List ℕ) (hm : most_matrix ≤ length m) (hy : longest_y ≤ length y) (hx : longest_y ≤ length x) (form : has_form key_form t ≡ true) where
  abbrev p : Parameters
  p = parameters_in t

  abbrev k : Kept
  k = key_read t m y x

  module _ (w : Within p) where
    rows_fit : y_length p ≤ length y
    rows_fit = omega arith

    x_a-fits : p.k ≤ length x
    x_a-fits = omega arith

    matrix-fits : matrix_length p ≤ length m
    matrix-fits = omega (arith, matrix-most p w)

    -- the slices hold their fields behind the stores of the others
    kept_test : (d f : List ℕ) (n : ℕ) → n ≤ length d → read_in (count_in d (bytes_of f)) (length (stored d f)) n ≡ eqb (length (bytes_of f)) n
    kept_test d f n h =
        ap (λ (l : ℕ). eqb (count_in d (bytes_of f)) n && leb n l) (length-stored d f)
        ∙ count-test d (bytes_of f) n h (dec_le (length (bytes_of f)) (length d))

    lengths-agree : lengths_read p k.lengths (length k.matrix) (length k.y) (length k.x_a) ≡ key_lengths p (bytes_at t 1) (bytes_at t 2) (bytes_at t 3)
    unfolding lengths_read key_lengths
    lengths-agree =
        rw (kept_test m (field_at t 1 1) (matrix_length p) matrix-fits, kept_test y (field_at t 2 1) (y_length p) rows_fit, kept_test x (field_at t 3 1) p.k x_a-fits)

    vector-agrees : key_lengths p (bytes_at t 1) (bytes_at t 2) (bytes_at t 3) ≡ true → vector_read p k.matrix k.y k.x_a ≡ vector_in t
    unfolding key_lengths
    vector-agrees e =
        let A : Bool = eqb (length (bytes_at t 1)) (matrix_length p) in
        let B : Bool = eqb (length (bytes_at t 2)) (y_length p) in
        let C : Bool = eqb (length (bytes_at t 3)) p.k in
        let f : (A && B) ≡ true = and_left (A && B) C e in
        rw (
          front m (field_at t 1 1) (matrix_length p) matrix-fits (matrix-hex t form) (and_left A B f),
          front y (field_at t 2 1) (y_length p) rows_fit (y-hex t form) (and_right A B f),
          front x (field_at t 3 1) p.k x_a-fits (x_a-hex t form) (and_right (A && B) C e),
        )

  read-listing : finish_of (fresh 4 0 true k).scan k.matrix k.y k.x_a ≡ listing_of t
  unfolding finish_of listing_of key_checks complete
  read-listing =
      rw form
      (same-printed p.w refl (λ e. lengths-agree (test-within p e))
      (λ e f. let v = vector-agrees (test-within p e) f in (ap (λ (z : List ℕ). leb (weight_of z) p.w) v, v)))

pub finish-malformed : (s : KeyScan) (m y x : List ℕ) → complete s ≡ false → finish_of s m y x ≡ refused_line Malformed
unfolding finish_of
finish-malformed s m y x e = rw e

listing-malformed : (t : List ℕ) → has_form key_form t ≡ false → listing_of t ≡ refused_line Malformed
unfolding listing_of
listing-malformed t e = rw e

abbrev pub finished : Held → List ℕ
finished h = finish_of h.scan h.matrix h.y h.x_a

pub finish-listing : (t m y x : List ℕ) → most_matrix ≤ length m → longest_y ≤ length y → longest_y ≤ length x → finished (fold step (held start m y x) t) ≡ listing_of t
finish-listing t m y x hm hy hx = go (has_form key_form t) refl
  where
    go : (b : Bool) → has_form key_form t ≡ b → finished (fold step (held start m y x) t) ≡ listing_of t
    go true f = ap finished (key-read t m y x f) ∙ read-listing t m y x hm hy hx f
    go false f =
        let k : Kept = record { numbers = start.numbers; lengths = start.lengths; matrix = m; y = y; x_a = x } in
        let h : Held = fold step (held start m y x) t in
        finish-malformed h.scan h.matrix h.y h.x_a (complete-form k t ∙ f) ∙ sym (listing-malformed t f)

-- ---- room

pub room : (n : ℕ) {d : List ℕ} {k : ℕ} → d ≡ replicate n 0 → k ≤ n → k ≤ length d
room n {d} e h = let l : length (replicate {A = ℕ} n 0) ≡ n = length-replicate {A = ℕ} n 0 in omega (arith, ap length e)

pub fits-room : (d t : List ℕ) {d' : List ℕ} {r : ℕ} → r ≡ length t → d' ≡ put_at d 0 t → r ≤ length d'
unfolding put_at
fits-room d t {d'} e f = omega (arith, ap length f, length-append t (drop (0 + length t) d))

-- ---- the cases of the output

-- the slices hold what the parameters say
pub read_fits : (p : Parameters) (ls : List ℕ) (m y x : ℕ) → lengths_read p ls m y x ≡ true → (matrix_length p ≤ m) × (y_length p ≤ y) × (p.k ≤ x)
unfolding lengths_read
read_fits p ls m y x e =
    let A : Bool = read_in (get_or ls 0 0) m (matrix_length p) in
    let B : Bool = read_in (get_or ls 1 0) y (y_length p) in
    let C : Bool = read_in (get_or ls 2 0) x p.k in
    let f : (A && B) ≡ true = and_left (A && B) C e in (
      leb-true (matrix_length p) m (and_right (eqb (get_or ls 0 0) (matrix_length p)) (leb (matrix_length p) m) (and_left A B f)),
      leb-true (y_length p) y (and_right (eqb (get_or ls 1 0) (y_length p)) (leb (y_length p) y) (and_right A B f)),
      leb-true p.k x (and_right (eqb (get_or ls 2 0) p.k) (leb p.k x) (and_right (A && B) C e)),
    )

-- the checks 10, 1 and 2 from their tests, with the parameters p that were read
pub read-row : (s : KeyScan) (m y x : ℕ) {p : Parameters} → p ≡ parameters_of s.numbers → (a b c : Bool) → a ≡ complete s → b ≡ within_limits p
    → c ≡ lengths_read p s.lengths m y x → check a Malformed (check b Parameter (check c Length (Ok tt))) ≡ read_checks s m y x
unfolding read_checks
read-row s m y x r a b c ea eb ec =
    rw (ea, eb ∙ ap within_limits r, ec ∙ ap (λ (q : Parameters). lengths_read q s.lengths m y x) r)

-- what was read, where the three pass
pub record Read (s : KeyScan) (m y x : ℕ) : Type 0 where
  pub whole : complete s ≡ true
  pub limits : within_limits (parameters_of s.numbers) ≡ true
  pub lengths : lengths_read (parameters_of s.numbers) s.lengths m y x ≡ true

three-pass : (a b c : Bool) → checks ((a, Malformed) ∷ (b, Parameter) ∷ (c, Length) ∷ []) ≡ Ok tt → (a ≡ true) × (b ≡ true) × (c ≡ true)
three-pass false b c h = absurd (Ok≢Err (sym h))
three-pass true false c h = absurd (Ok≢Err (sym h))
three-pass true true false h = absurd (Ok≢Err (sym h))
three-pass true true true h = (refl, refl, refl)

pub read_done : (s : KeyScan) (m y x : ℕ) → read_checks s m y x ≡ Ok tt → Read s m y x
unfolding read_checks
read_done s m y x h =
    let f = three-pass (complete s) (within_limits (parameters_of s.numbers)) (lengths_read (parameters_of s.numbers) s.lengths m y x) h in
    record { whole = f.0; limits = f.1; lengths = f.2 }

module _ (s : KeyScan) {m y x : ℕ} {p : Parameters} (r : p ≡ parameters_of s.numbers) (d : Read s m y x) where
  pub read-within : Within p
  read-within = test-within p (ap within_limits r ∙ d.limits)

  pub read_held : (matrix_length p ≤ m) × (y_length p ≤ y) × (p.k ≤ x)
  read_held = read_fits p s.lengths m y x (ap (λ (q : Parameters). lengths_read q s.lengths m y x) r ∙ d.lengths)

-- one of the three fails, whatever a fourth says
first-refused : (w : ℕ) (v : List ℕ) (a b c e : Bool) {r : Refusal} → checks ((a, Malformed) ∷ (b, Parameter) ∷ (c, Length) ∷ []) ≡ Err r
    → printed (checks ((a, Malformed) ∷ (b, Parameter) ∷ (c, Length) ∷ (e, Weight) ∷ [])) w v ≡ refused_line r
first-refused w v false b c e h = ap (λ (z : Answer). printed z w v) h
first-refused w v true false c e h = ap (λ (z : Answer). printed z w v) h
first-refused w v true true false e h = ap (λ (z : Answer). printed z w v) h
first-refused w v true true true e h = absurd (Ok≢Err h)

module _ (s : KeyScan) (m y x : List ℕ) where
  pub finish-refused : {r : Refusal} → read_checks s (length m) (length y) (length x) ≡ Err r → finish_of s m y x ≡ refused_line r
  unfolding finish_of read_checks
  finish-refused h =
      let p : Parameters = parameters_of s.numbers in
      let v : List ℕ = vector_read p m y x in
      first-refused p.w v (complete s) (within_limits p) (lengths_read p s.lengths (length m) (length y) (length x)) (leb (weight_of v) p.w) h

  pub finish-weighed : {p : Parameters} → p ≡ parameters_of s.numbers → Read s (length m) (length y) (length x)
      → finish_of s m y x ≡ weighed p.w (vector_read p m y x)
  unfolding finish_of
  finish-weighed r d = rw (d.whole, d.limits, d.lengths) (ap (λ (q : Parameters). weighed q.w (vector_read q m y x)) (sym r))

pub weighed-light : (w : ℕ) (x : List ℕ) → leb (weight_of x) w ≡ true → weighed w x ≡ key_lines w x
weighed-light w x e = rw e

pub weighed-heavy : (w : ℕ) (x : List ℕ) → leb (weight_of x) w ≡ false → weighed w x ≡ refused_line Weight
weighed-heavy w x e = rw e
