-- The laws of S and F.
--
--   length-ascending, ascending-at    the points in a row
--   distinct-ascending                no two of them are equal
--   ascending-distinct, points-distinct     no two of them are equal bytes
--   length-interpolant                S has m coefficients
--   interpolant-values                S(f_i) = x_i for all i, over the field of bytes
--   interpolant-unique                no other m bytes as coefficients have these values
--   interpolant-only                  the same over the field of bytes
--   interpolant-xor                   S of a sum is the sum of both S, for all numbers: "Addition is xor"
--   bytes-interpolant                 S of bytes has bytes as coefficients
--   product-in-field, -monic, -zero   a product of X + f over any numbers: over the field of bytes, its leading 1, its zeros
--   length-vanishing                  F has m + 1 coefficients
--   vanishing-in-field                F over the field of bytes
--   vanishing-monic                   F is m low coefficients and a leading 1
--   vanishing-leading                 the same over the field of bytes
--   bytes-vanishing                   F has bytes as coefficients
use Rattle.std.specs.Prelude.{◌≡◌, refl, List, [], ◌∷◌, ◌++◌, ℕ, zero, suc, ◌+◌, ◌≤◌, ◌<◌, length, take, get_or}
use Rattle.std.proofs.Common.{sym, ap, ap₂, ◌∙◌, not-suc-le-zero, le_of_suc-le-suc, arith, lit<}
use Rattle.std.proofs.lemmas.List.{length-map}
use Rattle.lists.specs.Sum.{xor_list}
use Rattle.lists.specs.Sum.Laws.{length-xor_list}
use Rattle.algebra.specs.Ring.{ops}
use Rattle.algebra.specs.Each.{Each, Distinct}
use Rattle.algebra.specs.Each.Laws.{each-of-map, each_at}
use Rattle.algebra.specs.Polynomial.{eval, plus, product, vanishing, interpolate, values}
use Rattle.algebra.specs.Polynomial.Lengths.{length-product, length-interpolate}
use Rattle.algebra.specs.Polynomial.Linear.{interpolate-sum}
use Rattle.algebra.specs.Polynomial.Interpolation.{interpolate-values, interpolate-unique}
use Rattle.algebra.specs.Polynomial.Products.{product-roots, leading-product}
use Rattle.algebra.specs.Polynomial.Maps.{map-eval, map-interpolate, map-product}
use Rattle.bytefield.specs.Product.{byte_ops}
use Rattle.bytefield.specs.Product.Laws.{byte-linear, xor_list-plus}
use Rattle.bytefield.specs.Inverse.{inverse}
use Rattle.bytefield.specs.Byte.{Byte, byte, byte_ring, byte_inverse}
use Rattle.bytefield.proofs.Laws.Field.{byte_field}
use Rattle.bytefield.specs.Byte.Laws.{byte-zero}
use Rattle.bytefield.specs.Byte.Laws.{byte_one, byte-inverse, byte-homomorphism}
use Rattle.polynomial.specs.Bytes.{Bytes, in_field}
use Rattle.polynomial.specs.Bytes.Laws.{byte-equal, bytes-equal, byte-eval, bytes-monic, bytes-interpolate, bytes_product}
use Rattle.polynomial.specs.Interpolant.{ascending, interpolation_points, interpolant_of, vanishing_of}

-- ---- the points

pub length-ascending : (a n : ℕ) → length (ascending a n) ≡ n
unfolding ascending
length-ascending a zero = refl
length-ascending a (suc n) = ap suc (length-ascending (suc a) n)

pub ascending-at : (a n i : ℕ) → i < n → get_or (ascending a n) i 0 ≡ a + i
unfolding ascending
ascending-at a zero i h = absurd (not-suc-le-zero h)
ascending-at a (suc n) zero h = omega arith
ascending-at a (suc n) (suc i) h = ascending-at (suc a) n i (le_of_suc-le-suc h) ∙ omega arith

later : (f a n : ℕ) → f < a → Each (λ y. y ≡ f → ⊥) (ascending a n)
unfolding ascending
later f a zero h = tt
later f a (suc n) h = ((λ e. omega arith), later f (suc a) n (omega arith))

pub distinct-ascending : (a n : ℕ) → Distinct (ascending a n)
unfolding ascending
distinct-ascending a zero = tt
distinct-ascending a (suc n) = (later a (suc a) n (omega arith), distinct-ascending (suc a) n)

ascending-differs : (f a n : ℕ) → f < a → a + n ≤ 256 → Each (λ y. y ≡ byte f → ⊥) (in_field (ascending a n))
unfolding ascending
ascending-differs f a zero h k = tt
ascending-differs f a (suc n) h k =
    ((λ e. let q = byte-equal a f (omega arith) (omega arith) e in omega arith), ascending-differs f (suc a) n (omega arith) (omega arith))

pub ascending-distinct : (a n : ℕ) → a + n ≤ 256 → Distinct (in_field (ascending a n))
unfolding ascending
ascending-distinct a zero k = tt
ascending-distinct a (suc n) k = (ascending-differs a (suc a) n (omega arith) (omega arith), ascending-distinct (suc a) n (omega arith))

pub points-distinct : (m : ℕ) → m < 256 → Distinct (in_field (interpolation_points m))
points-distinct m h = ascending-distinct 1 m (omega arith)

pub length-points : (m : ℕ) → length (in_field (interpolation_points m)) ≡ m
length-points m = length-map (interpolation_points m) byte ∙ length-ascending 1 m

-- ---- S

pub length-interpolant : (x : List ℕ) → length (interpolant_of x) ≡ length x
unfolding interpolant_of
length-interpolant x =
    length-interpolate byte_ops inverse (interpolation_points (length x)) x (length-ascending 1 (length x)) ∙ length-ascending 1 (length x)

pub bytes-interpolant : (x : List ℕ) → Bytes x → Bytes (interpolant_of x)
unfolding interpolant_of
bytes-interpolant x h = bytes-interpolate (interpolation_points (length x)) x h

module _ (x : List ℕ) (short : length x < 256) where
  interpolant_in_field : in_field (interpolant_of x) ≡ interpolate (ops byte_ring) byte_inverse (in_field (interpolation_points (length x))) (in_field x)
  unfolding interpolant_of
  interpolant_in_field = map-interpolate byte_ops (ops byte_ring) byte byte-homomorphism inverse byte_inverse byte-inverse (interpolation_points (length x)) x

  as_many : length (in_field (interpolation_points (length x))) ≡ length (in_field x)
  as_many = length-points (length x) ∙ sym (length-map x byte)

  pub interpolant-values : values (ops byte_ring) (in_field (interpolant_of x)) (in_field (interpolation_points (length x))) ≡ in_field x
  interpolant-values =
      ap (λ (p : List Byte). values (ops byte_ring) p (in_field (interpolation_points (length x)))) interpolant_in_field
      ∙ interpolate-values byte_field (in_field (interpolation_points (length x))) (in_field x) as_many (points-distinct (length x) short)

  pub interpolant-only : (p : List Byte) → length p ≡ length x
      → values (ops byte_ring) p (in_field (interpolation_points (length x))) ≡ in_field x → p ≡ in_field (interpolant_of x)
  interpolant-only p l e =
      interpolate-unique byte_field (in_field (interpolation_points (length x))) (in_field x) p as_many (points-distinct (length x) short)
      (l ∙ sym (length-points (length x))) e
      ∙ sym interpolant_in_field

  -- ---- the same on numbers
  values-in-field : (p fs : List ℕ) → in_field (values byte_ops p fs) ≡ values (ops byte_ring) (in_field p) (in_field fs)
  values-in-field p [] = refl
  values-in-field p (f ∷ fs) = ap₂ ◌∷◌ (map-eval byte_ops (ops byte_ring) byte byte-homomorphism p f) (values-in-field p fs)

  pub interpolant-unique : (p : List ℕ) → Bytes x → Bytes p → length p ≡ length x
      → values byte_ops p (interpolation_points (length x)) ≡ x → p ≡ interpolant_of x
  interpolant-unique p h k l e =
      bytes-equal p (interpolant_of x) k (bytes-interpolant x h)
      (interpolant-only (in_field p) (length-map p byte ∙ l) (sym (values-in-field p (interpolation_points (length x))) ∙ ap in_field e))

-- ---- S of a sum

pub interpolant-xor : (x y : List ℕ) → length x ≡ length y → interpolant_of (xor_list x y) ≡ xor_list (interpolant_of x) (interpolant_of y)
unfolding interpolant_of
interpolant-xor x y e =
    let n : length (xor_list x y) ≡ length x = length-xor_list x y (omega arith) in
    ap₂ (λ (n : ℕ) (l : List ℕ). interpolate byte_ops inverse (interpolation_points n) l) n (xor_list-plus x y)
    ∙ interpolate-sum byte_ops byte-linear inverse (interpolation_points (length x)) x y (length-ascending 1 (length x)) e
    ∙ ap (λ (n : ℕ). plus byte_ops (interpolant_of x) (interpolate byte_ops inverse (interpolation_points n) y)) e
    ∙ sym (xor_list-plus (interpolant_of x) (interpolant_of y))

-- ---- products of X + f

pub product-in-field : (fs : List ℕ) → in_field (vanishing byte_ops fs) ≡ vanishing (ops byte_ring) (in_field fs)
product-in-field fs =
    map-product byte_ops (ops byte_ring) byte byte-homomorphism (1 ∷ []) fs
    ∙ ap (λ (o : Byte). product (ops byte_ring) (o ∷ []) (in_field fs)) byte_one

pub product-monic : (n : ℕ) (fs : List ℕ) → length fs ≡ n → vanishing byte_ops fs ≡ take n (vanishing byte_ops fs) ++ (1 ∷ [])
product-monic n fs e =
    let l = leading-product byte_ring [] byte_ring.one (in_field fs) in
    let k = length-product byte_ops (1 ∷ []) fs in
    bytes-monic n (vanishing byte_ops fs) l.0 (bytes_product (1 ∷ []) fs (lit< tt, tt)) (omega arith) (product-in-field fs ∙ l.1)

pub product-zero : (fs : List ℕ) (i : ℕ) → i < length fs → eval byte_ops (vanishing byte_ops fs) (get_or fs i 0) ≡ 0
product-zero fs i h =
    byte-equal (eval byte_ops (vanishing byte_ops fs) (get_or fs i 0)) 0
    (byte-eval (vanishing byte_ops fs) (get_or fs i 0) (bytes_product (1 ∷ []) fs (lit< tt, tt))) (lit< tt)
    (map-eval byte_ops (ops byte_ring) byte byte-homomorphism (vanishing byte_ops fs) (get_or fs i 0)
    ∙ each_at (λ f. eval (ops byte_ring) (in_field (vanishing byte_ops fs)) (byte f) ≡ byte_ring.zero) 0 fs
    (each-of-map (λ f. eval (ops byte_ring) (in_field (vanishing byte_ops fs)) f ≡ byte_ring.zero) byte fs
    (rw (product-in-field fs) (product-roots byte_ring (byte_ring.one ∷ []) (in_field fs)))) i h
    ∙ sym byte-zero)

-- ---- F

pub length-vanishing : (m : ℕ) → length (vanishing_of m) ≡ m + 1
unfolding vanishing_of
length-vanishing m =
    let a = length-product byte_ops (1 ∷ []) (interpolation_points m) in
    let b = length-ascending 1 m in
    omega arith

pub bytes-vanishing : (m : ℕ) → Bytes (vanishing_of m)
unfolding vanishing_of
bytes-vanishing m = bytes_product (1 ∷ []) (interpolation_points m) (lit< tt, tt)

pub vanishing-in-field : (m : ℕ) → in_field (vanishing_of m) ≡ vanishing (ops byte_ring) (in_field (interpolation_points m))
unfolding vanishing_of
vanishing-in-field m = product-in-field (interpolation_points m)

pub vanishing-leading : (m : ℕ) → (low : List Byte) × (in_field (vanishing_of m) ≡ low ++ (byte_ring.one ∷ []))
vanishing-leading m =
    let l = leading-product byte_ring [] byte_ring.one (in_field (interpolation_points m)) in
    (l.0, vanishing-in-field m ∙ l.1)

pub vanishing-monic : (m : ℕ) → vanishing_of m ≡ take m (vanishing_of m) ++ (1 ∷ [])
unfolding vanishing_of
vanishing-monic m = product-monic m (interpolation_points m) (length-ascending 1 m)
