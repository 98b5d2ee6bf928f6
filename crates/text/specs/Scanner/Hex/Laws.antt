-- A hex field, digit by digit.
--
-- hex_value-small   a hex digit's value is below 16
-- hex-accepts      a field is accepted exactly when it is hex
-- hex-scan         the scanner's state after a hex field: its bytes counted up to one more than the slice holds
-- hex-stored       its bytes stand in the slice where they all have room
-- length-hex_out    the slice keeps its length
-- hex_step-first, hex_step-second    a step from its parts: the byte's value v, whether the field is still sound (u), the count and the slice after it
use Rattle.std.specs.Prelude.{◌≡◌, refl, ℕ, suc, ◌+◌, ◌-◌, ◌*◌, ◌%◌, ◌≤◌, ◌<◌, min, Bool, true, false, cond, ◌&&◌, List, [], ◌∷◌, Option, None, Some, leb, length, set}
use Rattle.std.proofs.Common.{sym, ap, ap₂, ◌∙◌, add-one, arith, length-set, le-leb, leb-true}
use Rattle.std.proofs.Math.Decide.{dec_le}
use Rattle.std.proofs.Math.Bool.{and-false, and-true, and_assoc}
use Rattle.std.proofs.lemmas.List.Edits.{sets}
use Rattle.std.proofs.lemmas.Bool.{lt-leb}
use Rattle.lists.specs.Checks.Laws.{and_left, and_right}
use Rattle.text.specs.Fold.{fold}
use Rattle.text.specs.Hex.{is_hex_digit, hex_value, is_hex, bytes_of}
use Rattle.text.specs.declared.hex.HexScan.{HexScan}
use Rattle.text.specs.Scanner.Hex.{hex_start, HexHeld, hex_held, counted, hex_step_after, hex_step, hex_accepts}

-- between two bytes: n of them counted
abbrev state : ℕ → Bool → HexScan
state n b = record { count = n; half = None; sound = b }

pub hex_value-small : (b : ℕ) → hex_value b < 16
unfolding hex_value
hex_value-small b = go (leb 48 b && leb b 57) refl (leb 97 b && leb b 102) refl
  where
    go : (s : Bool) → (leb 48 b && leb b 57) ≡ s → (t : Bool) → (leb 97 b && leb b 102) ≡ t → cond s (b - 48) (cond t (b - 87) 0) < 16
    go true e t f = let k : b ≤ 57 = leb-true b 57 (and_right (leb 48 b) (leb b 57) e) in omega arith
    go false e true f = let k : b ≤ 102 = leb-true b 102 (and_right (leb 97 b) (leb b 102) f) in omega arith
    go false e false f = omega arith

-- two digits: one byte
abbrev paired : ℕ → ℕ → ℕ → Bool → List ℕ → HexHeld
paired a b n s d = hex_held (state (counted (length d) n) (s && is_hex_digit a && is_hex_digit b)) (set d n (16 * hex_value a + hex_value b))

two : (a b n : ℕ) (s : Bool) (d : List ℕ) → hex_step (hex_step (hex_held (state n s) d) a) b ≡ paired a b n s d
unfolding hex_step
two a b n s d =
    let h = hex_value-small a in
    let e : hex_value a % 16 * 16 + hex_value b ≡ 16 * hex_value a + hex_value b = omega arith in
    ap (λ (v : ℕ). hex_held (state (counted (length d) n) (s && is_hex_digit a && is_hex_digit b)) (set d n v)) e

pub hex-accepts-from : (f : List ℕ) (n : ℕ) (s : Bool) (d : List ℕ) → hex_accepts (fold hex_step (hex_held (state n s) d) f).scan ≡ (s && is_hex f)
unfolding hex_accepts is_hex hex_step
hex-accepts-from [] n s d = sym (and-true s)
hex-accepts-from (a ∷ []) n s d = sym (and-false s)
hex-accepts-from (a ∷ b ∷ f) n s d =
    ap (λ (h : HexHeld). hex_accepts (fold hex_step h f).scan) (two a b n s d)
    ∙ hex-accepts-from f (counted (length d) n) (s && is_hex_digit a && is_hex_digit b) (set d n (16 * hex_value a + hex_value b))
    ∙ and_assoc (s && is_hex_digit a) (is_hex_digit b) (is_hex f) ∙ and_assoc s (is_hex_digit a) (is_hex_digit b && is_hex f)

pub hex-accepts : (f d : List ℕ) → hex_accepts (fold hex_step (hex_held hex_start d) f).scan ≡ is_hex f
hex-accepts f d = hex-accepts-from f 0 true d

counted-min : (cap n k : ℕ) → n ≤ cap + 1 → Dec (n ≤ cap) → min (counted cap n + k) (cap + 1) ≡ min (n + suc k) (cap + 1)
unfolding counted
counted-min cap n k h (yes p) = rw (le-leb n cap p) (omega arith)
counted-min cap n k h (no p) = rw (lt-leb n cap (omega arith)) (omega arith)

counted-le : (cap n : ℕ) → n ≤ cap + 1 → Dec (n ≤ cap) → counted cap n ≤ cap + 1
unfolding counted
counted-le cap n h (yes p) = rw (le-leb n cap p) (omega arith)
counted-le cap n h (no p) = rw (lt-leb n cap (omega arith)) (omega arith)

-- both digits of a byte are digits
digits : (a b : ℕ) (f : List ℕ) → is_hex (a ∷ b ∷ f) ≡ true → (is_hex_digit a ≡ true) × (is_hex_digit b ≡ true) × (is_hex f ≡ true)
unfolding is_hex
digits a b f e =
    let q = and_right (is_hex_digit a) (is_hex_digit b && is_hex f) e in
    (and_left (is_hex_digit a) (is_hex_digit b && is_hex f) e, and_left (is_hex_digit b) (is_hex f) q, and_right (is_hex_digit b) (is_hex f) q)

two-sound : (a b n : ℕ) (d f : List ℕ) → is_hex (a ∷ b ∷ f) ≡ true
    → hex_step (hex_step (hex_held (state n true) d) a) b ≡ hex_held (state (counted (length d) n) true) (set d n (16 * hex_value a + hex_value b))
two-sound a b n d f e =
    let q = digits a b f e in
    two a b n true d ∙ ap (λ (t : Bool). hex_held (state (counted (length d) n) t) (set d n (16 * hex_value a + hex_value b))) (ap₂ ◌&&◌ q.0 q.1)

hex-scan-from : (f : List ℕ) (n : ℕ) (d : List ℕ) → n ≤ length d + 1 → is_hex f ≡ true
    → (fold hex_step (hex_held (state n true) d) f).scan ≡ state (min (n + length (bytes_of f)) (length d + 1)) true
unfolding bytes_of is_hex
hex-scan-from [] n d h e = ap (λ (m : ℕ). state m true) (omega arith)
hex-scan-from (a ∷ []) n d h e = absurd (let z : ◌≡◌ {A = ℕ} 0 1 = cc in omega arith)
hex-scan-from (a ∷ b ∷ f) n d h e =
    let v : ℕ = 16 * hex_value a + hex_value b in
    let k : length (set d n v) ≡ length d = length-set d n v in
    let c = counted-le (length d) n h (dec_le n (length d)) in
    ap (λ (t : HexHeld). (fold hex_step t f).scan) (two-sound a b n d f e)
    ∙ hex-scan-from f (counted (length d) n) (set d n v) (omega arith) (digits a b f e).2
    ∙ ap (λ (m : ℕ). state (min (counted (length d) n + length (bytes_of f)) (m + 1)) true) k
    ∙ ap (λ (m : ℕ). state m true) (counted-min (length d) n (length (bytes_of f)) h (dec_le n (length d)))

pub hex-scan : (f d : List ℕ) → is_hex f ≡ true → (fold hex_step (hex_held hex_start d) f).scan ≡ state (min (length (bytes_of f)) (length d + 1)) true
hex-scan f d e = hex-scan-from f 0 d (omega arith) e ∙ ap (λ (m : ℕ). state (min m (length d + 1)) true) (omega arith)

hex-stored-from : (f : List ℕ) (n : ℕ) (d : List ℕ) → n + length (bytes_of f) ≤ length d → is_hex f ≡ true
    → (fold hex_step (hex_held (state n true) d) f).out ≡ sets d n (bytes_of f)
unfolding bytes_of is_hex counted
hex-stored-from [] n d h e = refl
hex-stored-from (a ∷ []) n d h e = absurd (let z : ◌≡◌ {A = ℕ} 0 1 = cc in omega arith)
hex-stored-from (a ∷ b ∷ f) n d h e =
    let v : ℕ = 16 * hex_value a + hex_value b in
    let k : length (set d n v) ≡ length d = length-set d n v in
    let c : counted (length d) n ≡ suc n = rw (le-leb n (length d) (omega arith)) (add-one n) in
    ap (λ (t : HexHeld). (fold hex_step t f).out) (two-sound a b n d f e ∙ ap (λ (m : ℕ). hex_held (state m true) (set d n v)) c)
    ∙ hex-stored-from f (suc n) (set d n v) (omega arith) (digits a b f e).2

pub hex-stored : (f d : List ℕ) → length (bytes_of f) ≤ length d → is_hex f ≡ true → (fold hex_step (hex_held hex_start d) f).out ≡ sets d 0 (bytes_of f)
hex-stored f d h e = hex-stored-from f 0 d (omega arith) e

length-step : (h : HexHeld) (b : ℕ) → length (hex_step h b).out ≡ length h.out
unfolding hex_step
length-step h b = go h.scan.half
  where
    go : (p : Option ℕ) → length (hex_step_after p h b).out ≡ length h.out
    go None = refl
    go (Some high) = length-set h.out h.scan.count (high % 16 * 16 + hex_value b)

pub length-hex_out : (f : List ℕ) (h : HexHeld) → length (fold hex_step h f).out ≡ length h.out
length-hex_out [] h = refl
length-hex_out (b ∷ f) h = length-hex_out f (hex_step h b) ∙ length-step h b

-- ---- a step from its parts

module _ (s : HexScan) (d : List ℕ) (b : ℕ) {v : ℕ} {u : Bool} (ev : v ≡ hex_value b) (eu : u ≡ (s.sound && is_hex_digit b)) where
  pub hex_step-first : s.half ≡ None → hex_held (record { count = s.count; half = Some v; sound = u }) d ≡ hex_step (hex_held s d) b
  unfolding hex_step
  hex_step-first h = rw (h, ev, eu)

  pub hex_step-second : {high n : ℕ} {d' : List ℕ} → n ≡ counted (length d) s.count → d' ≡ set d s.count (high % 16 * 16 + v) → s.half ≡ Some high
      → hex_held (record { count = n; half = None; sound = u }) d' ≡ hex_step (hex_held s d) b
  unfolding hex_step
  hex_step-second en ed h = rw (h, en, ed, ev, eu)
