-- Laws of what specs/Bytes.antt defines.
--
--   bytes-from           from a fact about each index, as a slice of bytes gives it
--   bytes-monic          a list of bytes that is monic in the field ends with 1
--   byte-at              an element, also past the end
--   bytes-append, -xor_list, -take
--                        joined lists, sums and parts
--   byte-eval            the value of a polynomial
--   bytes-plus, -scale, -times, -expand, -divide, -product, -quotient, -slopes, -interpolate, -over
--                        the operations of polynomials give bytes
use Rattle.std.specs.Prelude.{◌≡◌, refl, List, [], ◌∷◌, ◌++◌, ℕ, zero, suc, ◌+◌, ◌<◌, length, take, get_or, replicate}
use Rattle.std.proofs.Common.{sym, ap, ap₂, ◌∙◌, arith, lit<, length-append, take_at}
use Rattle.std.proofs.lemmas.List.{map-append, length-map}
use Rattle.lists.specs.Xor.{◌⊕◌}
use Rattle.lists.specs.Xor.Laws.{⊕-lt}
use Rattle.lists.specs.Sum.{xor_list}
use Rattle.algebra.specs.Ring.{ops}
use Rattle.algebra.specs.Each.Laws.{each_from}
use Rattle.algebra.specs.Polynomial.{eval, plus, scale, times, behind, expand, divide, product, quotient, slopes, interpolate}
use Rattle.bytefield.specs.Product.{◌⊗◌, byte_ops}
use Rattle.bytefield.specs.Product.Laws.{⊗-lt, xor_list-plus}
use Rattle.bytefield.specs.Inverse.{inverse}
use Rattle.bytefield.specs.Byte.{Byte, byte, byte_ring}
use Rattle.bytefield.specs.Byte.Laws.{byte_one, byte-homomorphism, val-byte}
use Rattle.polynomial.specs.Division.{degree, remainder, over}
use Rattle.polynomial.specs.Division.Maps.{map-take}
use Rattle.polynomial.specs.Bytes.{Bytes, in_field}

pub byte-equal : (a b : ℕ) → a < 256 → b < 256 → byte a ≡ byte b → a ≡ b
byte-equal a b h k e = sym (val-byte a h) ∙ ap (λ (x : Byte). x.0) e ∙ val-byte b k

pub bytes-equal : (p q : List ℕ) → Bytes p → Bytes q → in_field p ≡ in_field q → p ≡ q
bytes-equal [] [] h k e = refl
bytes-equal [] (b ∷ q) h k e = absurd (let n : ◌≡◌ {A = ℕ} 0 (suc (length (in_field q))) = ap length e in omega arith)
bytes-equal (a ∷ p) [] h k e = absurd (let n : ◌≡◌ {A = ℕ} (suc (length (in_field p))) 0 = ap length e in omega arith)
bytes-equal (a ∷ p) (b ∷ q) h k e =
    ap₂ ◌∷◌
    (byte-equal a b h.0 k.0 (ap top e))
    (bytes-equal p q h.1 k.1 (ap rest e))
  where
    top : List Byte → Byte
    top [] = byte 0
    top (x ∷ l) = x

    rest : List Byte → List Byte
    rest [] = []
    rest (x ∷ l) = l

pub bytes-from : (p : List ℕ) → ((i : ℕ) → get_or p i 0 < 256) → Bytes p
bytes-from p h = each_from (λ a. a < 256) 0 p (λ i l. h i)

-- ---- closure
zero-byte : 0 < 256
zero-byte = lit< tt

step-byte : (a f c : ℕ) → a < 256 → a ⊕ (f ⊗ c) < 256
step-byte a f c h = ⊕-lt 8 h (⊗-lt f c)

pub bytes-plus : (p q : List ℕ) → Bytes p → Bytes q → Bytes (plus byte_ops p q)
unfolding plus
bytes-plus [] q h k = k
bytes-plus (a ∷ p) [] h k = h
bytes-plus (a ∷ p) (b ∷ q) h k = (⊕-lt 8 h.0 k.0, bytes-plus p q h.1 k.1)

pub byte-eval : (p : List ℕ) (x : ℕ) → Bytes p → eval byte_ops p x < 256
unfolding eval
byte-eval [] x h = zero-byte
byte-eval (a ∷ p) x h = step-byte a x (eval byte_ops p x) h.0

pub bytes-scale : (c : ℕ) (p : List ℕ) → Bytes (scale byte_ops c p)
unfolding scale
bytes-scale c [] = tt
bytes-scale c (a ∷ p) = (⊗-lt c a, bytes-scale c p)

pub bytes-times : (p q : List ℕ) → Bytes (times byte_ops p q)
unfolding times
bytes-times [] q = tt
bytes-times (a ∷ p) q = bytes-plus (scale byte_ops a q) (0 ∷ times byte_ops p q) (bytes-scale a q) (zero-byte, bytes-times p q)

pub bytes_take : (n : ℕ) (p : List ℕ) → Bytes p → Bytes (take n p)
bytes_take zero p h = tt
bytes_take (suc n) [] h = tt
bytes_take (suc n) (a ∷ p) h = (h.0, bytes_take n p h.1)

pub bytes-expand : (f : ℕ) (p : List ℕ) → Bytes p → Bytes (expand byte_ops f p)
unfolding expand
bytes-expand f [] h = tt
bytes-expand f (y ∷ []) h = h
bytes-expand f (y ∷ c ∷ p) h = (step-byte y f c h.0, bytes-expand f (c ∷ p) h.1)

pub bytes_divide : (f : ℕ) (p : List ℕ) → Bytes p → Bytes (divide byte_ops f p)
unfolding divide
bytes_divide f [] h = tt
bytes_divide f (a ∷ p) h = (step-byte a f _ h.0, bytes_divide f p h.1)

bytes-behind : (p : List ℕ) → Bytes p → Bytes (behind byte_ops p)
bytes-behind [] h = tt
bytes-behind (a ∷ p) h = h.1

pub bytes_product : (p fs : List ℕ) → Bytes p → Bytes (product byte_ops p fs)
unfolding product
bytes_product p [] h = h
bytes_product p (f ∷ fs) h = bytes_product (expand byte_ops f (0 ∷ p)) fs (bytes-expand f (0 ∷ p) (zero-byte, h))

pub bytes-quotient : (p fs : List ℕ) → Bytes p → Bytes (quotient byte_ops p fs)
unfolding quotient
bytes-quotient p [] h = h
bytes-quotient p (f ∷ fs) h =
    bytes-quotient (behind byte_ops (divide byte_ops f p)) fs (bytes-behind (divide byte_ops f p) (bytes_divide f p h))

pub bytes-slopes : (f y : ℕ) (gs zs : List ℕ) → Bytes (slopes byte_ops inverse f y gs zs)
unfolding slopes
bytes-slopes f y [] zs = tt
bytes-slopes f y (g ∷ gs) [] = tt
bytes-slopes f y (g ∷ gs) (z ∷ zs) = (⊗-lt (z ⊕ y) (inverse (g ⊕ f)), bytes-slopes f y gs zs)

pub bytes-interpolate : (fs ys : List ℕ) → Bytes ys → Bytes (interpolate byte_ops inverse fs ys)
unfolding interpolate
bytes-interpolate [] ys h = tt
bytes-interpolate (f ∷ fs) [] h = tt
bytes-interpolate (f ∷ fs) (y ∷ ys) h =
    bytes-expand f _ (h.0, bytes-interpolate fs (slopes byte_ops inverse f y fs ys) (bytes-slopes f y fs ys))

-- ---- lists
pub bytes-append : (p q : List ℕ) → Bytes p → Bytes q → Bytes (p ++ q)
bytes-append [] q h k = k
bytes-append (a ∷ p) q h k = (h.0, bytes-append p q h.1 k)

pub bytes-xor_list : (p q : List ℕ) → Bytes p → Bytes q → Bytes (xor_list p q)
bytes-xor_list p q h k = rw (xor_list-plus p q) (bytes-plus p q h k)

pub byte-at : (n : ℕ) (p : List ℕ) → Bytes p → get_or p n 0 < 256
byte-at n [] h = zero-byte
byte-at zero (a ∷ p) h = h.0
byte-at (suc n) (a ∷ p) h = byte-at n p h.1

pub bytes-monic : (n : ℕ) (q : List ℕ) (low : List Byte) → Bytes q → length q ≡ n + 1 → in_field q ≡ low ++ (byte_ring.one ∷ []) → q ≡ take n q ++ (1 ∷ [])
bytes-monic n q low h l e =
    let a = ap length e in
    let b = length-append low (byte_ring.one ∷ []) in
    let c = length-map q byte in
    let k : length low ≡ n = omega arith in
    bytes-equal q (take n q ++ (1 ∷ [])) h (bytes-append (take n q) (1 ∷ []) (bytes_take n q h) (lit< tt, tt))
    (e
    ∙ sym (ap₂ (λ (l : List Byte) (o : Byte). l ++ (o ∷ []))
    (map-take byte_ops (ops byte_ring) byte byte-homomorphism n q ∙ ap (take n) e ∙ take_at low (byte_ring.one ∷ []) n k) byte_one)
    ∙ sym (map-append byte (take n q) (1 ∷ [])))

-- ---- division by a monic polynomial
bytes-replicate : (n : ℕ) → Bytes (replicate n 0)
bytes-replicate zero = tt
bytes-replicate (suc n) = (zero-byte, bytes-replicate n)

bytes-remainder : (p b : List ℕ) → Bytes p → Bytes (remainder byte_ops p b)
unfolding remainder
bytes-remainder [] b h = bytes-replicate (degree b)
bytes-remainder (a ∷ p) b h =
    bytes-plus (take (degree b) (a ∷ remainder byte_ops p b)) _
    (bytes_take (degree b) (a ∷ remainder byte_ops p b) (h.0, bytes-remainder p b h.1)) (bytes-scale _ (take (degree b) b))

pub bytes-over : (p b : List ℕ) → Bytes p → Bytes (over byte_ops p b)
unfolding over
bytes-over [] b h = tt
bytes-over (a ∷ p) b h =
    (byte-at (degree b) (a ∷ remainder byte_ops p b) (h.0, bytes-remainder p b h.1), bytes-over p b h.1)
