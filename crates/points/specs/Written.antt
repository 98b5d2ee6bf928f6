-- Points as the code has them, four bytes each, and tables of points one after another.
--
--   scalar b                    the byte b as a point: 'A byte b is the point b 00 00 00'
--   times-point, sum-bytes      what product and sum of points give on their bytes
--   lone-bytes, scalar-bytes    a byte as a point, and a product with a byte
--   bytes_read                  four bytes that are read are a point's
--   bytes-put                   four writes are one
--   write-none, -turn, -end     a table that is written from its front on
--   front_length, front_kept, middle-kept   the length of a front; a slice keeps its length where a front, or a middle part, was lent
--   halves-room, halves-made    the front of a slice and then the rest of it are lent and come back: how long the rest is, and what stands in the slice
use Rattle.std.specs.Prelude.{◌≡◌, refl, List, [], ◌∷◌, ◌++◌, ℕ, suc, ◌+◌, ◌-◌, ◌*◌, ◌≤◌, ◌<◌, length, get_or, set, take, drop}
use Rattle.std.proofs.Common.{sym, ap, ap₂, ◌∙◌, add-one, arith, lit<, length-take, length-append, length-drop, length-take-le, take_at, drop_at}
use Rattle.std.proofs.Math.Seq.{paste}
use Rattle.lists.specs.Part.{put_at}
use Rattle.lists.specs.Part.Laws.{put_at-none, put_at-more, put_at-all, put_at-whole, put_at-put_at, tail-part, tail-back}
use Rattle.bytefield.specs.Byte.{byte, byte_ring}
use Rattle.bytefield.specs.Byte.Laws.{val-byte}
use Rattle.tower.specs.Point.{point_ops, quad, lone, four_sum, four_times}
use Rattle.tower.proofs.Point.Laws.{bytes-times}
use Rattle.tower.proofs.Point.Written.{four-path}
use Rattle.tower.specs.Field.{Point, point, bytes_of}
use Rattle.tower.proofs.Field.Laws.{point-bytes_of}
use Rattle.tower.proofs.Field.Laws.{bytes_of-point, point-times}
use Rattle.exchange.specs.Sequences.{joined}
use Rattle.exchange.specs.Reading.{points, bytes_at, point_at, encode, ◌⊞◌, ◌⊠◌}
use Rattle.exchange.proofs.Reading.Laws.{length-bytes_of, length-encode}

abbrev pub scalar : ℕ → Point
scalar b = point (lone b)

-- ---- arithmetic

pub times-point : (a b : List ℕ) → four_times a b ≡ bytes_of (point a ⊠ point b)
unfolding four_times points
times-point a b = sym (bytes_of-point (point_ops.mul (quad a) (quad b)) (bytes-times (quad a) (quad b))) ∙ ap bytes_of (point-times a b)

pub scalar-bytes : (b : ℕ) (a c : List ℕ) (x : Point) → a ≡ bytes_of x → c ≡ four_times (lone b) a → c ≡ bytes_of (scalar b ⊠ x)
scalar-bytes b a c x ea ec = ec ∙ times-point (lone b) a ∙ ap (λ (v : Point). bytes_of (scalar b ⊠ v)) (ap point ea ∙ point-bytes_of x)

pub lone-bytes : (b : ℕ) → b < 256 → lone b ≡ bytes_of (scalar b)
lone-bytes b h = sym (bytes_of-point ((b, 0), (0, 0)) (h, lit< tt, lit< tt, lit< tt))

sum-point : (x y : Point) → four_sum (bytes_of x) (bytes_of y) ≡ bytes_of (x ⊞ y)
unfolding four_sum bytes_of points byte_ring
sum-point x y = refl

pub sum-bytes : (a b c : List ℕ) (x y : Point) → a ≡ bytes_of x → b ≡ bytes_of y → c ≡ four_sum a b → c ≡ bytes_of (x ⊞ y)
sum-bytes a b c x y ea eb ec = ec ∙ ap₂ four_sum ea eb ∙ sum-point x y

-- ---- four bytes

pub bytes_read : (s : List ℕ) (i : ℕ) → ((j : ℕ) → get_or s j 0 < 256)
    → get_or s i 0 ∷ get_or s (i + 1) 0 ∷ get_or s (i + 2) 0 ∷ get_or s (i + 3) 0 ∷ [] ≡ bytes_of (point_at s i)
unfolding point_at bytes_at point bytes_of
bytes_read s i h =
    let e₁ : i + 1 ≡ suc i = omega arith in
    let e₂ : i + 2 ≡ suc (suc i) = omega arith in
    let e₃ : i + 3 ≡ suc (suc (suc i)) = omega arith in
    four-path (at i i refl) (at (i + 1) (suc i) e₁) (at (i + 2) (suc (suc i)) e₂) (at (i + 3) (suc (suc (suc i))) e₃)
  where
    at : (j k : ℕ) → j ≡ k → get_or s j 0 ≡ (byte (get_or s k 0)).0
    at j k e = ap (λ (m : ℕ). get_or s m 0) e ∙ sym (val-byte (get_or s k 0) (h k))

pub bytes-put : (d : List ℕ) (at : ℕ) (x : List ℕ) → length x ≡ 4 → at + 4 ≤ length d
    → set (set (set (set d at (get_or x 0 0)) (at + 1) (get_or x 1 0)) (at + 2) (get_or x 2 0)) (at + 3) (get_or x 3 0) ≡ put_at d at x
bytes-put d at x e h =
    let z : at ≡ at + 0 = omega arith in
    let first : set d at (get_or x 0 0) ≡ paste d at x 1
    = ap₂ (λ (q : List ℕ) (i : ℕ). set q i (get_or x 0 0)) (put_at-none d at x) z ∙ put_at-more d at x 0 (omega arith) (omega arith) in
    rw (first, put_at-more d at x 1 (omega arith) (omega arith), put_at-more d at x 2 (omega arith) (omega arith))
    (put_at-more d at x 3 (omega arith) (omega arith) ∙ ap (paste d at x) (sym e) ∙ put_at-all d at x)

-- ---- tables

pub write-none : (f : ℕ → Point) (d : List ℕ) → d ≡ put_at d 0 (encode f 0)
unfolding put_at encode joined
write-none f d = refl

pub write-turn : (f : ℕ → Point) (d p x : List ℕ) (i : ℕ) → 4 * i + 4 ≤ length d → p ≡ put_at d 0 (encode f i) → x ≡ bytes_of (f i)
    → put_at p (4 * i) x ≡ put_at d 0 (encode f (i + 1))
unfolding encode joined
write-turn f d p x i h ep ex =
    let n = length-encode f i in
    let b = length-bytes_of (f i) in
    rw (ep, ex, add-one i, ← n) (put_at-put_at d (encode f i) (bytes_of (f i)) (omega arith))

pub write-end : (f : ℕ → Point) (d p : List ℕ) (i n : ℕ) → i ≡ n → 4 * n ≡ length d → p ≡ put_at d 0 (encode f i) → p ≡ encode f n
write-end f d p i n e h ep = ep ∙ ap (λ (k : ℕ). put_at d 0 (encode f k)) e ∙ put_at-whole d (encode f n) (length-encode f n ∙ h)

-- ---- lengths

pub front_length : (n : ℕ) (l : List ℕ) → n ≤ length l → n ≡ length (take n l)
front_length n l h = sym (length-take-le n l h)

pub front_kept : (a : ℕ) (z l : List ℕ) → length z ≡ a → a ≤ length l → length (z ++ drop a l) ≡ length l
front_kept a z l e h = simp (length-append, length-drop) (omega arith)

pub middle-kept : (a n : ℕ) (u l : List ℕ) → length u ≡ n → a + n ≤ length l → length (take a l ++ (u ++ drop n (drop a l))) ≡ length l
middle-kept a n u l e h = simp (length-append, length-take, length-drop) (omega arith)

-- ---- a front, and then the rest

module _ (d ys : List ℕ) (a : ℕ) (e : length ys ≡ a) where
  pub halves-room : (b : ℕ) → length d ≡ a + b → length (take (length (ys ++ drop a d) - a) (drop a (ys ++ drop a d))) ≡ b
  halves-room b n = ap length (tail-part (ys ++ drop a d) a ∙ drop_at ys (drop a d) a e) ∙ length-drop a d ∙ omega arith

  pub halves-made : (u : List ℕ) → a ≤ length d
      → take a (ys ++ drop a d) ++ (u ++ drop (length (ys ++ drop a d) - a) (drop a (ys ++ drop a d))) ≡ ys ++ u
  halves-made u h =
      tail-back (ys ++ drop a d) u a (let k = length-append ys (drop a d) in omega arith)
      ∙ ap (λ (z : List ℕ). z ++ u) (take_at ys (drop a d) a e)
