-- The laws of the complement G and of the scales.
--
--   missing m             the bytes above m, the roots of G
--   length-complement     G has 256 − m coefficients
--   bytes-complement      they are bytes
--   complement-monic      the highest is 1
--   complement-zero       G is zero at each byte above m
--   complement-some       and at no other
--   length-scales        there are m scales
--   scale_at             the scale of the byte f is f times G(f)
--   scale-some           it is not zero
--   length-factors, factors-front, -end   the 256 bytes that hold the scales and the complement, and both read from them
use Rattle.std.specs.Prelude.{◌≡◌, refl, List, [], ◌∷◌, ◌++◌, ℕ, zero, suc, ◌+◌, ◌-◌, ◌≤◌, ◌<◌, length, take, drop, get_or}
use Rattle.std.proofs.Common.{sym, ap, ◌∙◌, not-suc-le-zero, le_of_suc-le-suc, arith, lit<, length-append, take_at, drop_at}
use Rattle.lists.specs.Xor.Laws.{positive}
use Rattle.algebra.specs.Ring.{ops}
use Rattle.algebra.specs.Each.Laws.{each_from}
use Rattle.algebra.specs.Each.Laws.{each-to-map}
use Rattle.algebra.specs.Polynomial.{eval}
use Rattle.algebra.specs.Polynomial.Lengths.{length-product}
use Rattle.algebra.specs.Polynomial.Quotients.{vanishing-elsewhere}
use Rattle.algebra.specs.Polynomial.Maps.{map-eval}
use Rattle.bytefield.specs.Product.{◌⊗◌, byte_ops}
use Rattle.bytefield.specs.Byte.{byte, byte_ring}
use Rattle.bytefield.proofs.Laws.Field.{byte_field}
use Rattle.bytefield.specs.Byte.Laws.{byte-zero}
use Rattle.bytefield.specs.Byte.Laws.{byte-homomorphism}
use Rattle.polynomial.specs.Bytes.{Bytes, in_field}
use Rattle.polynomial.specs.Bytes.Laws.{byte-equal, byte-eval, bytes_product}
use Rattle.polynomial.specs.Interpolant.{ascending}
use Rattle.polynomial.specs.Interpolant.Laws.{length-ascending, ascending-at, product-in-field, product-monic, product-zero}
use Rattle.interpolants.proofs.Laws.Cancel.{⊗-some}
use Rattle.interpolants.specs.Complement.{complement_of, scales_from, scales_of, factors_of}

abbrev pub missing : ℕ → List ℕ
missing m = ascending (1 + m) (255 - m)

-- ---- the complement

pub length-complement : (m : ℕ) → m < 256 → length (complement_of m) ≡ 256 - m
unfolding complement_of
length-complement m h =
    omega (arith, length-product byte_ops (1 ∷ []) (missing m), length-ascending (1 + m) (255 - m))

pub bytes-complement : (m : ℕ) → m < 256 → Bytes (complement_of m)
unfolding complement_of
bytes-complement m h = bytes_product (1 ∷ []) (missing m) (lit< tt, tt)

pub complement-monic : (m : ℕ) → complement_of m ≡ take (255 - m) (complement_of m) ++ (1 ∷ [])
unfolding complement_of
complement-monic m = product-monic (255 - m) (missing m) (length-ascending (1 + m) (255 - m))

pub complement-zero : (m z : ℕ) → m < z → z < 256 → eval byte_ops (complement_of m) z ≡ 0
unfolding complement_of
complement-zero m z h k =
    let p : get_or (missing m) (z - (1 + m)) 0 ≡ z = ascending-at (1 + m) (255 - m) (z - (1 + m)) (omega arith) ∙ omega arith in
    rw p at (product-zero (missing m) (z - (1 + m)) (omega (arith, length-ascending (1 + m) (255 - m))))

pub complement-some : (m z : ℕ) → z ≤ m → m < 256 → 0 < eval byte_ops (complement_of m) z
unfolding complement_of
complement-some m z h k =
    positive (eval byte_ops (complement_of m) z) (λ e. vanishing-elsewhere byte_field (in_field (missing m)) (byte z)
    (each-to-map (λ f. byte z ≡ f → ⊥) byte (missing m) (each_from (λ f. byte z ≡ byte f → ⊥) 0 (missing m) apart))
    (rw (product-in-field (missing m)) at (sym (map-eval byte_ops (ops byte_ring) byte byte-homomorphism (complement_of m) z)) ∙ ap byte e ∙ byte-zero))
  where
    apart : (i : ℕ) → i < length (missing m) → byte z ≡ byte (get_or (missing m) i 0) → ⊥
    apart i l q =
        let n = length-ascending (1 + m) (255 - m) in
        let a = ascending-at (1 + m) (255 - m) i (omega arith) in
        let b : z ≡ get_or (missing m) i 0 = byte-equal z (get_or (missing m) i 0) (omega arith) (omega arith) q in
        omega arith

-- ---- the scales

length_from : (g : List ℕ) (a n : ℕ) → length (scales_from g a n) ≡ n
unfolding scales_from
length_from g a zero = refl
length_from g a (suc n) = ap suc (length_from g (suc a) n)

from_at : (g : List ℕ) (a n i : ℕ) → i < n → get_or (scales_from g a n) i 0 ≡ (a + i) ⊗ eval byte_ops g (a + i)
unfolding scales_from
from_at g a zero i h = absurd (not-suc-le-zero h)
from_at g a (suc n) zero h = ap (λ (f : ℕ). f ⊗ eval byte_ops g f) (omega arith)
from_at g a (suc n) (suc i) h = from_at g (suc a) n i (le_of_suc-le-suc h) ∙ ap (λ (f : ℕ). f ⊗ eval byte_ops g f) (omega arith)

pub length-scales : (m : ℕ) → length (scales_of m) ≡ m
unfolding scales_of
length-scales m = length_from (complement_of m) 1 m

pub scale_at : (m i : ℕ) → i < m → get_or (scales_of m) i 0 ≡ (1 + i) ⊗ eval byte_ops (complement_of m) (1 + i)
unfolding scales_of
scale_at m i h = from_at (complement_of m) 1 m i h

pub scale-some : (m i : ℕ) → i < m → m < 256 → 0 < get_or (scales_of m) i 0
scale-some m i h k =
    rw (scale_at m i h)
    (⊗-some (1 + i) (eval byte_ops (complement_of m) (1 + i)) (omega arith) (omega arith) (complement-some m (1 + i) (omega arith) k)
    (byte-eval (complement_of m) (1 + i) (bytes-complement m k)))

pub length-factors : (m : ℕ) → m < 256 → length (factors_of m) ≡ 256
unfolding factors_of
length-factors m h = omega (arith, length-append (scales_of m) (complement_of m), length-scales m, length-complement m h)

pub factors-front : (m : ℕ) (d : List ℕ) → d ≡ factors_of m → take m d ≡ scales_of m
unfolding factors_of
factors-front m d e = ap (take m) e ∙ take_at (scales_of m) (complement_of m) m (length-scales m)

pub factors-end : (m : ℕ) (d : List ℕ) → d ≡ factors_of m → drop m d ≡ complement_of m
unfolding factors_of
factors-end m d e = ap (drop m) e ∙ drop_at (scales_of m) (complement_of m) m (length-scales m)
