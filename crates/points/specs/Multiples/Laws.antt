-- The laws of products that are read from a table.
--
--   bytes-word_of                    the bytes of the word of a point
--   word_of-sum                      the word of a sum
--   four_bytes, word-parts, number-word   four bytes as a point, and as its word
--   x-step, z-step                  the products with X and Z by bytes
--   byte-read                       the product of a byte and a point, from a table that starts with the point's multiples
--   short-product, whole-product    the product of four bytes and a point, from one and from four tables
--   length-multiples, own-table     the length of a table; a table that is made of the word of four bytes
--   tables-made                     the four tables written one behind the other
use Rattle.std.specs.Prelude.{◌≡◌, refl, List, [], ◌∷◌, ◌++◌, map, ℕ, ◌+◌, ◌*◌, ◌/◌, ◌%◌, ◌≤◌, ◌<◌, length, get_or, take, drop}
use Rattle.std.proofs.Common.{sym, ap₂, ◌∙◌, ⊎_elim, append_assoc, arith, lit<, length-append, get_or-take}
use Rattle.std.specs.Int.{w32, from_le_bytes}
use Rattle.std.proofs.Math.Path.{ap}
use Rattle.algebra.specs.Ring.{Ring2}
use Rattle.algebra.specs.Ring.Laws.{ring}
use Rattle.algebra.specs.Extension.Laws.{pair}
use Rattle.lists.specs.Xor.{◌⊕◌}
use Rattle.lists.specs.Xor.Laws.{xors, ⊕-zero}
use Rattle.lists.specs.Part.{put_at}
use Rattle.lists.specs.Part.Laws.{put_at-put_at, put_at-whole}
use Rattle.bytefield.specs.Product.{◌⊗◌, reduction, xtime, times_bits}
use Rattle.bytefield.specs.Product.Laws.{bytefield, ⊗-comm, ⊗-lt, one-⊗, zero-⊗}
use Rattle.bytefield.specs.Byte.{byte, byte_ring}
use Rattle.bytefield.specs.Byte.Laws.{byte-homomorphism}
use Rattle.tower.specs.Point.{Quad, quad, four, lone, four_sum, four_times}
use Rattle.tower.proofs.Point.Steps.{byte-product}
use Rattle.tower.proofs.Point.Written.{plus₄, times₄, four-path}
use Rattle.tower.specs.Field.{Point, point, bytes_of, point_of}
use Rattle.tower.proofs.Field.Laws.{point-bytes_of}
use Rattle.tower.proofs.Field.Laws.{bytes_of-point, point-sum, point-times}
use Rattle.packed.specs.Word.{bytes, word, scaled}
use Rattle.packed.specs.Word.Laws.{⊕-shl, ⊕-below, first_byte, other-bytes}
use Rattle.packed.specs.Table.{nibbles, multiples, picked}
use Rattle.packed.specs.Table.Laws.{picked-multiples}
use Rattle.polynomial.specs.Bytes.{Bytes}
use Rattle.exchange.specs.Reading.{points, ◌⊞◌, ◌⊠◌}
use Rattle.exchange.proofs.Reading.Laws.{bytes-bytes_of}
use Rattle.points.specs.Written.{scalar, times-point, scalar-bytes}
use Rattle.points.specs.Multiples.{word_of, by_x, by_z, multiples_of, Lower, Read, Multiplies}

-- ---- words

bytes_word : (l : List ℕ) → Bytes l → bytes (length l) (word l) ≡ l
unfolding bytes word
bytes_word [] h = refl
bytes_word (b ∷ l) h = ap₂ ◌∷◌ (first_byte (word l) b h.0) (ap (bytes (length l)) (other-bytes (word l) b h.0) ∙ bytes_word l h.1)

pub bytes-word_of : (x : Point) → bytes 4 (word_of x) ≡ bytes_of x
unfolding word_of bytes_of
bytes-word_of x = bytes_word (bytes_of x) (bytes-bytes_of x)

word-shifts : (a b c d : ℕ) → word (a ∷ b ∷ c ∷ d ∷ []) ≡ a ⊕ (b * 256 ⊕ (c * 65536 ⊕ d * 16777216))
unfolding word
word-shifts a b c d =
    let e : c * 256 * 256 ≡ c * 65536 = omega arith in
    let f : d * 256 * 256 * 256 ≡ d * 16777216 = omega arith in
    rw (⊕-zero d, ⊕-shl 8 c (d * 256), ⊕-shl 8 b (c * 256 ⊕ d * 256 * 256), ⊕-shl 8 (c * 256) (d * 256 * 256), e, f) refl

word_sum : (a b c d e f g h : ℕ) → word ((a ⊕ e) ∷ (b ⊕ f) ∷ (c ⊕ g) ∷ (d ⊕ h) ∷ []) ≡ word (a ∷ b ∷ c ∷ d ∷ []) ⊕ word (e ∷ f ∷ g ∷ h ∷ [])
word_sum a b c d e f g h =
    rw (word-shifts (a ⊕ e) (b ⊕ f) (c ⊕ g) (d ⊕ h), word-shifts a b c d, word-shifts e f g h, ⊕-shl 8 b f, ⊕-shl 16 c g, ⊕-shl 24 d h) (simp xors)

pub word_of-sum : (x y : Point) → word_of (x ⊞ y) ≡ word_of x ⊕ word_of y
unfolding word_of bytes_of points byte_ring
word_of-sum x y = word_sum _ _ _ _ _ _ _ _

-- four bytes stand for a point
pub four_bytes : (a : List ℕ) → ((i : ℕ) → get_or a i 0 < 256) → four (quad a) ≡ bytes_of (point a)
unfolding point
four_bytes a h = sym (bytes_of-point (quad a) (h 0, h 1, h 2, h 3))

pub word-parts : (a : List ℕ) (b c d e : ℕ) → ((i : ℕ) → get_or a i 0 < 256) → b ≡ get_or a 0 0 → c ≡ get_or a 1 0 → d ≡ get_or a 2 0 → e ≡ get_or a 3 0
    → b ⊕ (c * 256 ⊕ (d * 65536 ⊕ e * 16777216)) ≡ word_of (point a)
unfolding word_of
word-parts a b c d e h eb ec ed ee = sym (word-shifts b c d e) ∙ ap word (four-path eb ec ed ee ∙ four_bytes a h)

pub number-word : (a : List ℕ) → ((i : ℕ) → get_or a i 0 < 256) → from_le_bytes w32 a ≡ word_of (point a)
unfolding word_of word
number-word a h =
    let w₃ = get_or a 3 0 ⊕ 0 in
    let w₂ = get_or a 2 0 ⊕ w₃ * 256 in
    let w₁ = get_or a 1 0 ⊕ w₂ * 256 in
    let e : from_le_bytes w32 a ≡ word (get_or a 0 0 ∷ get_or a 1 0 ∷ get_or a 2 0 ∷ get_or a 3 0 ∷ [])
    = omega (arith, ⊕-zero (get_or a 3 0), ⊕-below w₃ (get_or a 2 0) (h 2), ⊕-below w₂ (get_or a 1 0) (h 1), ⊕-below w₁ (get_or a 0 0) (h 0)) in
    e ∙ ap word (four_bytes a h)

-- ---- the steps of the tower

x-quad : (x : Quad) → ((1 ⊗ (x.0.1 ⊗ 0x20), 1 ⊗ x.0.0 ⊕ 1 ⊗ x.0.1), (1 ⊗ (x.1.1 ⊗ 0x20), 1 ⊗ x.1.0 ⊕ 1 ⊗ x.1.1))
    ≡ times₄ x ((0, 1), (0, 0))
x-quad x = pair (pair (simp bytefield) (simp bytefield)) (pair (simp bytefield) (simp bytefield))

z-quad : (x : Quad) → ((1 ⊗ (x.1.1 ⊗ (0x20 ⊗ 0x20)), 1 ⊗ ((x.1.0 ⊕ x.1.1) ⊗ 0x20)), (1 ⊗ x.0.0 ⊕ 1 ⊗ x.1.0, 1 ⊗ x.0.1 ⊕ 1 ⊗ x.1.1))
    ≡ times₄ x ((0, 0), (1, 0))
z-quad x = pair (pair (simp bytefield) (simp bytefield)) (pair (simp bytefield) (simp bytefield))

-- 20 squared is 6c
square : 0x6c ≡ 0x20 ⊗ 0x20
unfolding reduction xtime times_bits ◌⊗◌ ◌⊕◌
square = refl

module _ (b : List ℕ) (h : (i : ℕ) → get_or b i 0 < 256) where
  scaled-once : (a c v : ℕ) → v ≡ a ⊗ c → v ≡ 1 ⊗ (a ⊗ c)
  scaled-once a c v e = e ∙ sym (one-⊗ (a ⊗ c) (⊗-lt a c))

  sum-once : (i j v : ℕ) → v ≡ get_or b i 0 ⊕ get_or b j 0 → v ≡ 1 ⊗ get_or b i 0 ⊕ 1 ⊗ get_or b j 0
  sum-once i j v e = e ∙ sym (ap₂ ◌⊕◌ (one-⊗ (get_or b i 0) (h i)) (one-⊗ (get_or b j 0) (h j)))

  pub x-step : (w x y z : ℕ) → w ≡ get_or b 1 0 ⊗ 0x20 → x ≡ get_or b 0 0 ⊕ get_or b 1 0 → y ≡ get_or b 3 0 ⊗ 0x20 → z ≡ get_or b 2 0 ⊕ get_or b 3 0
      → w ∷ x ∷ y ∷ z ∷ [] ≡ bytes_of (point b ⊠ by_x)
  unfolding four_times by_x
  x-step w x y z ew ex ey ez =
      four-path (scaled-once _ _ w ew) (sum-once 0 1 x ex) (scaled-once _ _ y ey) (sum-once 2 3 z ez)
      ∙ ap four (x-quad (quad b)) ∙ times-point b (0 ∷ 1 ∷ 0 ∷ 0 ∷ [])

  pub z-step : (w s x y z : ℕ) → w ≡ get_or b 3 0 ⊗ 0x6c → s ≡ get_or b 2 0 ⊕ get_or b 3 0 → x ≡ s ⊗ 0x20 → y ≡ get_or b 0 0 ⊕ get_or b 2 0
      → z ≡ get_or b 1 0 ⊕ get_or b 3 0 → w ∷ x ∷ y ∷ z ∷ [] ≡ bytes_of (point b ⊠ by_z)
  unfolding four_times by_z
  z-step w s x y z ew es ex ey ez =
      four-path (scaled-once _ _ w (ew ∙ ap (◌⊗◌ (get_or b 3 0)) square)) (scaled-once _ _ x (ex ∙ ap (λ (v : ℕ). v ⊗ 0x20) es)) (sum-once 0 2 y ey)
      (sum-once 1 3 z ez) ∙ ap four (z-quad (quad b)) ∙ times-point b (0 ∷ 0 ∷ 1 ∷ 0 ∷ [])

-- ---- a byte and a point

word-zeros : (a b c d : ℕ) → word (a ∷ b ∷ c ∷ d ∷ 0 ∷ 0 ∷ 0 ∷ 0 ∷ []) ≡ word (a ∷ b ∷ c ∷ d ∷ [])
unfolding word ◌⊕◌
word-zeros a b c d = refl

scaled-bytes : (a b c d k : ℕ) → Bytes (a ∷ b ∷ c ∷ d ∷ []) → scaled (word (a ∷ b ∷ c ∷ d ∷ [])) k ≡ word ((a ⊗ k) ∷ (b ⊗ k) ∷ (c ⊗ k) ∷ (d ⊗ k) ∷ [])
unfolding scaled
scaled-bytes a b c d k h =
    ap (λ (w : ℕ). word (map (λ x. x ⊗ k) (bytes 8 w))) (sym (word-zeros a b c d)) ∙ ap (λ (l : List ℕ). word (map (λ x. x ⊗ k) l))
    (bytes_word (a ∷ b ∷ c ∷ d ∷ 0 ∷ 0 ∷ 0 ∷ 0 ∷ []) (h.0, (h.1.0, (h.1.1.0, (h.1.1.1.0, (lit< tt, (lit< tt, (lit< tt, (lit< tt, tt)))))))))
    ∙ ap (λ (z : ℕ). word ((a ⊗ k) ∷ (b ⊗ k) ∷ (c ⊗ k) ∷ (d ⊗ k) ∷ z ∷ z ∷ z ∷ z ∷ [])) (zero-⊗ k) ∙ word-zeros (a ⊗ k) (b ⊗ k) (c ⊗ k) (d ⊗ k)

scaled-word_of : (x : Point) (c : ℕ) → scaled (word_of x) c ≡ word_of (scalar c ⊠ x)
unfolding word_of bytes_of
scaled-word_of x c =
    scaled-bytes x.0.0.0 x.0.1.0 x.1.0.0 x.1.1.0 c (bytes-bytes_of x)
    ∙ ap word (byte-product c (bytes_of x) _ _ _ _ (⊗-comm _ c) (⊗-comm _ c) (⊗-comm _ c) (⊗-comm _ c) ∙ scalar-bytes c (bytes_of x) _ x refl refl)

-- ---- a point as a sum of bytes times 1, X, Z and X·Z

split-quad : (a b c d : ℕ)
    → plus₄ (plus₄ (plus₄ ((a, 0), (0, 0)) (times₄ ((b, 0), (0, 0)) ((0, 1), (0, 0)))) (times₄ ((c, 0), (0, 0)) ((0, 0), (1, 0))))
    (times₄ ((d, 0), (0, 0)) ((0, 0), (0, 1)))
    ≡ ((a, 1 ⊗ b), (1 ⊗ c, 1 ⊗ d))
split-quad a b c d = pair (pair (simp bytefield) (simp bytefield)) (pair (simp bytefield) (simp bytefield))

byte-once : (a : ℕ) → byte (1 ⊗ a) ≡ byte a
byte-once a =
    ap byte (⊗-comm 1 a) ∙ byte-homomorphism.mul a 1 ∙ ap (byte_ring.mul (byte a)) byte-homomorphism.one ∙ byte_ring.mul-one (byte a)

four-steps : four_times (0 ∷ 1 ∷ 0 ∷ 0 ∷ []) (0 ∷ 0 ∷ 1 ∷ 0 ∷ []) ≡ 0 ∷ 0 ∷ 0 ∷ 1 ∷ []
unfolding four_times ◌⊗◌ times_bits xtime reduction ◌⊕◌
four-steps = refl

steps-product : by_x ⊠ by_z ≡ point (0 ∷ 0 ∷ 0 ∷ 1 ∷ [])
unfolding by_x by_z points
steps-product = sym (point-times (0 ∷ 1 ∷ 0 ∷ 0 ∷ []) (0 ∷ 0 ∷ 1 ∷ 0 ∷ [])) ∙ ap point four-steps

split-bytes : (a : List ℕ)
    → point (four_sum (four_sum (four_sum (lone (get_or a 0 0)) (four_times (lone (get_or a 1 0)) (0 ∷ 1 ∷ 0 ∷ 0 ∷ [])))
    (four_times (lone (get_or a 2 0)) (0 ∷ 0 ∷ 1 ∷ 0 ∷ []))) (four_times (lone (get_or a 3 0)) (0 ∷ 0 ∷ 0 ∷ 1 ∷ [])))
    ≡ point a
unfolding four_sum four_times point
split-bytes a =
    ap point_of (split-quad (get_or a 0 0) (get_or a 1 0) (get_or a 2 0) (get_or a 3 0))
    ∙ pair (pair refl (byte-once (get_or a 1 0))) (pair (byte-once (get_or a 2 0)) (byte-once (get_or a 3 0)))

split-point : (a : List ℕ)
    → point a ≡ scalar (get_or a 0 0) ⊞ scalar (get_or a 1 0) ⊠ by_x ⊞ scalar (get_or a 2 0) ⊠ by_z ⊞ scalar (get_or a 3 0) ⊠ (by_x ⊠ by_z)
unfolding by_x by_z points
split-point a =
    sym (split-bytes a) ∙ point-sum _ _ ∙ ap₂ ◌⊞◌
    (point-sum _ _
    ∙ ap₂ ◌⊞◌ (point-sum _ _ ∙ ap (◌⊞◌ (scalar (get_or a 0 0))) (point-times (lone (get_or a 1 0)) (0 ∷ 1 ∷ 0 ∷ 0 ∷ [])))
    (point-times (lone (get_or a 2 0)) (0 ∷ 0 ∷ 1 ∷ 0 ∷ [])))
    (point-times (lone (get_or a 3 0)) (0 ∷ 0 ∷ 0 ∷ 1 ∷ []) ∙ ap (◌⊠◌ (scalar (get_or a 3 0))) (sym steps-product))

module _ {K : Type 0} (R : Ring2 K) where
  infixl 60 ◌+K◌
  infixl 70 ◌*K◌
  open R use {zero as 𝟘, one as 𝟙, add as ◌+K◌, mul as ◌*K◌}

  spread : (a b c d x z w t : K) → (a +K b *K x +K c *K z +K d *K w) *K t ≡ a *K t +K b *K (t *K x) +K c *K (t *K z) +K d *K (t *K w)
  spread a b c d x z w t = simp (ring, R)

-- ---- products from a table

-- only the first 32 entries are read
pub byte-read : (t : List ℕ) (c : ℕ) → c < 256 → (x : Point) → take 32 t ≡ multiples (word_of x) → picked t c ≡ word_of (scalar c ⊠ x)
unfolding picked
byte-read t c h x e =
    ap₂ ◌⊕◌ (sym (get_or-take 32 t (c % 16) 0 (omega arith))) (sym (get_or-take 32 t (16 + c / 16) 0 (omega arith)))
    ∙ ap (λ (l : List ℕ). picked l c) e ∙ picked-multiples (word_of x) c h ∙ scaled-word_of x c

pub whole-product : (a : List ℕ) (b : Point) (t : List ℕ) (w₀ w₁ w₂ w₃ : ℕ)
    → Read t 0 (get_or a 0 0) w₀ → Read t 32 (get_or a 1 0) w₁ → Read t 64 (get_or a 2 0) w₂ → Read t 96 (get_or a 3 0) w₃
    → t ≡ multiples_of b → w₀ ⊕ w₁ ⊕ w₂ ⊕ w₃ ≡ word_of (point a ⊠ b)
unfolding multiples_of multiples nibbles
whole-product a b t w₀ w₁ w₂ w₃ r₀ r₁ r₂ r₃ e =
    let at : (k : ℕ) → take 32 (drop k t) ≡ take 32 (drop k (multiples_of b)) = λ k. ap (λ (l : List ℕ). take 32 (drop k l)) e in
    ap₂ ◌⊕◌ (ap₂ ◌⊕◌ (ap₂ ◌⊕◌ (r₀ b (at 0)) (r₁ (b ⊠ by_x) (at 32))) (r₂ (b ⊠ by_z) (at 64))) (r₃ (b ⊠ (by_x ⊠ by_z)) (at 96))
    ∙ sym (ap (λ (x : Point). word_of (x ⊠ b)) (split-point a)
    ∙ ap word_of (spread points.base (scalar (get_or a 0 0)) (scalar (get_or a 1 0)) (scalar (get_or a 2 0)) (scalar (get_or a 3 0)) by_x by_z (by_x ⊠ by_z) b)
    ∙ simp word_of-sum)

lower-point : (a : List ℕ) → Lower a → scalar (get_or a 0 0) ≡ point a
unfolding point
lower-point a h = ap point_of (pair (pair refl (sym h.0)) (pair (sym h.1) (sym h.2)))

-- where a is a byte, the first table serves, also of four
pub short-product : (a : List ℕ) (b : Point) (t : List ℕ) (w : ℕ) → Read t 0 (get_or a 0 0) w → Lower a → Multiplies t a b → w ≡ word_of (point a ⊠ b)
unfolding multiples_of multiples nibbles
short-product a b t w r l m = r b (⊎_elim (λ q. q.1) (λ e. ap (take 32) e) m) ∙ ap (λ (x : Point). word_of (x ⊠ b)) (lower-point a l)

-- ---- four tables

tables-joined : (d p q r s : List ℕ) → length d ≡ 128 → length p ≡ 32 → length q ≡ 32 → length r ≡ 32 → length s ≡ 32
    → put_at (put_at (put_at (put_at d 0 p) 32 q) 64 r) 96 s ≡ p ++ (q ++ (r ++ s))
tables-joined d p q r s ld lp lq lr ls =
    let a : length (p ++ q) ≡ 64 = length-append p q ∙ omega arith in
    let b : length ((p ++ q) ++ r) ≡ 96 = length-append (p ++ q) r ∙ omega arith in
    let c : length (((p ++ q) ++ r) ++ s) ≡ 128 = length-append ((p ++ q) ++ r) s ∙ omega arith in
    let next : (x y : List ℕ) (k : ℕ) → length x ≡ k → k + length y ≤ 128 → put_at (put_at d 0 x) k y ≡ put_at d 0 (x ++ y)
    = λ x y k l h. rw (← l) (put_at-put_at d x y (omega arith)) in
    rw (next p q 32 lp (omega arith), next (p ++ q) r 64 a (omega arith), next ((p ++ q) ++ r) s 96 b (omega arith))
    (put_at-whole d (((p ++ q) ++ r) ++ s) (omega arith) ∙ append_assoc (p ++ q) r s ∙ append_assoc p q (r ++ s))

pub length-multiples : (v : ℕ) → length (multiples v) ≡ 32
unfolding multiples nibbles
length-multiples v = refl

-- a table made of the word of a
pub own-table : (own a : List ℕ) (w : ℕ) → own ≡ multiples w → w ≡ word_of (point a) → take 32 own ≡ multiples (word_of (point a))
unfolding multiples nibbles
own-table own a w e ew = ap (take 32) (e ∙ ap multiples ew)

pub tables-made : (d b x z xz q₁ q₂ q₃ q₄ : List ℕ) → length d ≡ 128 → x ≡ bytes_of (point b ⊠ by_x) → z ≡ bytes_of (point b ⊠ by_z) → xz ≡ bytes_of (point x ⊠ by_z)
    → q₁ ≡ put_at d 0 (multiples (word_of (point b))) → q₂ ≡ put_at q₁ 32 (multiples (word_of (point x)))
    → q₃ ≡ put_at q₂ 64 (multiples (word_of (point z))) → q₄ ≡ put_at q₃ 96 (multiples (word_of (point xz))) → q₄ ≡ multiples_of (point b)
unfolding multiples_of
tables-made d b x z xz q₁ q₂ q₃ q₄ ld ex ez exz e₁ e₂ e₃ e₄ =
    let px : point x ≡ point b ⊠ by_x = ap point ex ∙ point-bytes_of _ in
    let pz : point z ≡ point b ⊠ by_z = ap point ez ∙ point-bytes_of _ in
    let pxz : point xz ≡ point b ⊠ (by_x ⊠ by_z) = ap point exz ∙ point-bytes_of _ ∙ rw px (points.base.mul_assoc (point b) by_x by_z) in
    rw (e₄, e₃, e₂, e₁, px, pz, pxz) (tables-joined d _ _ _ _ ld (length-multiples _) (length-multiples _) (length-multiples _) (length-multiples _))
