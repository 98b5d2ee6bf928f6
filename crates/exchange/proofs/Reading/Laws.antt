-- The laws of reading and writing.
--
-- length-bytes_at, bytes_at-ext   how many bytes are read, and on which bytes of the list they depend
-- bytes_at-part                  within a list, the bytes read are its part
-- bytes_at-all, bytes_at-drop     all bytes of a list are it; what is read past its first bytes
-- bytes_at-inside                a list is read back from inside another
-- bytes_at-xor, point_at-xor      reading is additive: 'Addition is xor'
-- point_at-ext, point_at-encode   on which bytes a point depends; points are read back from where they were written
-- length-bytes_of, bytes_of-inj, bytes-bytes_of   four bytes of a point: how many, they determine it, they are bytes
-- length-encode, encode-ext, encode_inj, bytes-encode   the same of the points one after another
-- lone-homomorphism             a byte as a point keeps sums and products
-- value-xor, value-times        the value of a sum and of a product of polynomials
use Rattle.std.specs.Prelude.{◌≡◌, refl, List, ◌∷◌, ◌++◌, map, ℕ, zero, suc, ◌+◌, ◌*◌, ◌≤◌, ◌<◌, length, get_or, take, drop}
use Rattle.std.proofs.Common.{sym, ap, ap₂, ◌∙◌, arith, length-take, length-drop, get_or-take, get_or-drop, get_or-append-add, ext_get_or, take_at}
use Rattle.std.proofs.Math.Nat.{mul_comm}
use Rattle.lists.specs.Xor.{◌⊕◌}
use Rattle.lists.specs.Part.{part}
use Rattle.lists.specs.Sum.{xor_list}
use Rattle.lists.specs.Sum.Laws.{get_d-xor_list}
use Rattle.algebra.specs.Operations.{Homomorphism}
use Rattle.algebra.specs.Ring.{ops}
use Rattle.algebra.specs.Extension.Laws.{pair}
use Rattle.algebra.specs.Polynomial.{eval, times}
use Rattle.algebra.specs.Polynomial.Evaluation.{eval-plus, eval-times}
use Rattle.algebra.specs.Polynomial.Maps.{map-plus, map-times}
use Rattle.bytefield.specs.Product.{◌⊗◌, byte_ops}
use Rattle.bytefield.specs.Product.Laws.{xor_list-plus}
use Rattle.bytefield.specs.Byte.{byte, byte_ring}
use Rattle.bytefield.specs.Byte.Laws.{byte-add, byte-homomorphism}
use Rattle.tower.specs.Point.{lone}
use Rattle.tower.specs.Field.{Point, point_field, point, bytes_of, lone_of}
use Rattle.tower.proofs.Field.Laws.{point-bytes_of}
use Rattle.tower.proofs.Field.Laws.{point-lone, lone_field}
use Rattle.polynomial.specs.Bytes.{Bytes}
use Rattle.exchange.specs.Sequences.{joined}
use Rattle.exchange.proofs.Sequences.Laws.{length-joined, joined-ext, joined-inj, joined_at, bytes-joined}
use Rattle.exchange.specs.Reading.{points, bytes_at, point_at, encode, value, ◌⊞◌, ◌⊠◌}

-- ---- bytes

pub length-bytes_at : (s : List ℕ) (i n : ℕ) → length (bytes_at s i n) ≡ n
unfolding bytes_at
length-bytes_at s i zero = refl
length-bytes_at s i (suc n) = ap suc (length-bytes_at s (suc i) n)

pub get_d-bytes_at : (s : List ℕ) (i n k : ℕ) → k < n → get_or (bytes_at s i n) k 0 ≡ get_or s (i + k) 0
unfolding bytes_at
get_d-bytes_at s i zero k l = absurd (omega arith)
get_d-bytes_at s i (suc n) zero l = let e : i ≡ i + 0 = omega arith in ap (λ (m : ℕ). get_or s m 0) e
get_d-bytes_at s i (suc n) (suc k) l =
    let e : suc i + k ≡ i + suc k = omega arith in get_d-bytes_at s (suc i) n k (omega arith) ∙ ap (λ (m : ℕ). get_or s m 0) e

pub bytes_at-is : (s : List ℕ) (i n : ℕ) (b : List ℕ) → length b ≡ n → ((k : ℕ) → k < n → get_or s (i + k) 0 ≡ get_or b k 0) → bytes_at s i n ≡ b
bytes_at-is s i n b e h =
    let a = length-bytes_at s i n in
    ext_get_or 0 (bytes_at s i n) b (omega arith) (λ k l. get_d-bytes_at s i n k (omega arith) ∙ h k (omega arith))

pub bytes_at-ext : (s s' : List ℕ) (i i' n : ℕ) → ((k : ℕ) → k < n → get_or s (i + k) 0 ≡ get_or s' (i' + k) 0) → bytes_at s i n ≡ bytes_at s' i' n
bytes_at-ext s s' i i' n h =
    bytes_at-is s i n (bytes_at s' i' n) (length-bytes_at s' i' n) (λ k l. h k l ∙ sym (get_d-bytes_at s' i' n k l))

pub bytes_at-part : (s : List ℕ) (i n : ℕ) → i + n ≤ length s → bytes_at s i n ≡ part s i n
unfolding part
bytes_at-part s i n h =
    bytes_at-is s i n (take n (drop i s)) (simp (length-take, length-drop) (omega arith))
    (λ k l. sym (get_or-take n (drop i s) k 0 l ∙ get_or-drop i s k 0))

pub bytes_at-inside : (before b after : List ℕ) (i n : ℕ) → length before ≡ i → length b ≡ n → bytes_at (before ++ (b ++ after)) i n ≡ b
bytes_at-inside before b after i n e h =
    bytes_at-is (before ++ (b ++ after)) i n b h
    (λ k l. ap (λ (m : ℕ). get_or (before ++ (b ++ after)) (m + k) 0) (sym e) ∙ get_or-append-add before (b ++ after) k 0
    ∙ sym (get_or-take n (b ++ after) k 0 l) ∙ ap (λ (s : List ℕ). get_or s k 0) (take_at b after n h))

pub bytes_at-all : (s : List ℕ) (n : ℕ) → length s ≡ n → bytes_at s 0 n ≡ s
bytes_at-all s n e = bytes_at-is s 0 n s e (λ k l. let z : 0 + k ≡ k = omega arith in ap (λ (m : ℕ). get_or s m 0) z)

pub bytes_at-drop : (d : ℕ) (s : List ℕ) (i n : ℕ) → bytes_at (drop d s) i n ≡ bytes_at s (d + i) n
bytes_at-drop d s i n =
    bytes_at-ext (drop d s) s i (d + i) n
    (λ k l. let q : d + (i + k) ≡ d + i + k = omega arith in get_or-drop d s (i + k) 0 ∙ ap (λ (m : ℕ). get_or s m 0) q)

pub bytes_at-xor : (s t : List ℕ) (i n : ℕ) → bytes_at (xor_list s t) i n ≡ xor_list (bytes_at s i n) (bytes_at t i n)
unfolding bytes_at xor_list
bytes_at-xor s t i zero = refl
bytes_at-xor s t i (suc n) = ap₂ ◌∷◌ (get_d-xor_list s t i) (bytes_at-xor s t (suc i) n)

-- ---- a point

pub length-bytes_of : (x : Point) → length (bytes_of x) ≡ 4
unfolding bytes_of
length-bytes_of x = refl

pub bytes_of-inj : (x y : Point) → bytes_of x ≡ bytes_of y → x ≡ y
bytes_of-inj x y e = sym (point-bytes_of x) ∙ ap point e ∙ point-bytes_of y

pub bytes-bytes_of : (x : Point) → Bytes (bytes_of x)
unfolding bytes_of
bytes-bytes_of x = (x.0.0.1, (x.0.1.1, (x.1.0.1, (x.1.1.1, tt))))

pub point_at-ext : (s s' : List ℕ) (i i' : ℕ) → ((k : ℕ) → k < 4 → get_or s (i + k) 0 ≡ get_or s' (i' + k) 0) → point_at s i ≡ point_at s' i'
unfolding point_at
point_at-ext s s' i i' h = ap point (bytes_at-ext s s' i i' 4 h)

pub point_at-drop : (d : ℕ) (s : List ℕ) (i : ℕ) → point_at (drop d s) i ≡ point_at s (d + i)
unfolding point_at
point_at-drop d s i = ap point (bytes_at-drop d s i 4)

pub point_at-xor : (s t : List ℕ) (i : ℕ) → point_at (xor_list s t) i ≡ point_at s i ⊞ point_at t i
unfolding point_at bytes_at point points
point_at-xor s t i = pair (pair (at i) (at (suc i))) (pair (at (suc (suc i))) (at (suc (suc (suc i)))))
  where
    at : (j : ℕ) → byte (get_or (xor_list s t) j 0) ≡ byte_ring.add (byte (get_or s j 0)) (byte (get_or t j 0))
    at j = ap byte (get_d-xor_list s t j) ∙ byte-add (get_or s j 0) (get_or t j 0)

-- ---- points one after another

module _ (f : ℕ → Point) (t : ℕ) where
  pub length-encode : length (encode f t) ≡ 4 * t
  unfolding encode
  length-encode = length-joined (λ l. bytes_of (f l)) t 4 (λ l h. length-bytes_of (f l)) ∙ mul_comm t 4

  pub bytes-encode : Bytes (encode f t)
  unfolding encode
  bytes-encode = bytes-joined (λ l. bytes_of (f l)) t (λ l h. bytes-bytes_of (f l))

pub encode-ext : (f g : ℕ → Point) (t : ℕ) → ((l : ℕ) → l < t → f l ≡ g l) → encode f t ≡ encode g t
unfolding encode
encode-ext f g t h = joined-ext (λ l. bytes_of (f l)) (λ l. bytes_of (g l)) t (λ l k. ap bytes_of (h l k))

pub encode_inj : (f g : ℕ → Point) (t : ℕ) → encode f t ≡ encode g t → (l : ℕ) → l < t → f l ≡ g l
unfolding encode
encode_inj f g t e l h =
    bytes_of-inj (f l) (g l)
    (joined-inj (λ l. bytes_of (f l)) (λ l. bytes_of (g l)) t 4 (λ l k. length-bytes_of (f l)) (λ l k. length-bytes_of (g l)) e l h)

pub point_at-encode : (before : List ℕ) (f : ℕ → Point) (t : ℕ) (after : List ℕ) (i l : ℕ) → length before ≡ i → l < t
    → point_at (before ++ (encode f t ++ after)) (i + 4 * l) ≡ f l
unfolding encode point_at
point_at-encode before f t after i l e h =
    ap point
    (bytes_at-is (before ++ (joined (λ l. bytes_of (f l)) t ++ after)) (i + 4 * l) 4 (bytes_of (f l)) (length-bytes_of (f l))
    (λ k hk.
    let q : i + 4 * l + k ≡ length before + (l * 4 + k) = omega arith in
    ap (λ (m : ℕ). get_or (before ++ (joined (λ l. bytes_of (f l)) t ++ after)) m 0) q
    ∙ get_or-append-add before (joined (λ l. bytes_of (f l)) t ++ after) (l * 4 + k) 0
    ∙ sym (get_or-drop (l * 4) (joined (λ l. bytes_of (f l)) t ++ after) k 0)
    ∙ sym (get_or-take 4 (drop (l * 4) (joined (λ l. bytes_of (f l)) t ++ after)) k 0 hk)
    ∙ ap (λ (s : List ℕ). get_or s k 0) (joined_at (λ l. bytes_of (f l)) 4 t (λ i g. length-bytes_of (f i)) after l h)))
    ∙ point-bytes_of (f l)

-- ---- values of polynomials

pub lone-homomorphism : Homomorphism byte_ops (ops points.base) (λ b. point (lone b))
unfolding points
lone-homomorphism = record {
  zero = point-lone 0 ∙ ap lone_of byte-homomorphism.zero ∙ lone_field.zero;
  one = point-lone 1 ∙ ap lone_of byte-homomorphism.one ∙ lone_field.one;
  add = λ a b.
      point-lone (a ⊕ b) ∙ ap lone_of (byte-homomorphism.add a b) ∙ lone_field.add (byte a) (byte b)
      ∙ sym (ap₂ point_field.base.add (point-lone a) (point-lone b));
  mul = λ a b.
      point-lone (a ⊗ b) ∙ ap lone_of (byte-homomorphism.mul a b) ∙ lone_field.mul (byte a) (byte b)
      ∙ sym (ap₂ point_field.base.mul (point-lone a) (point-lone b));
}

pub value-xor : (p q : List ℕ) (r : Point) → value (xor_list p q) r ≡ value p r ⊞ value q r
unfolding value
value-xor p q r =
    ap (λ (s : List ℕ). eval (ops points.base) (map (λ b. point (lone b)) s) r) (xor_list-plus p q)
    ∙ ap (λ (s : List Point). eval (ops points.base) s r)
    (map-plus byte_ops (ops points.base) (λ b. point (lone b)) lone-homomorphism p q)
    ∙ eval-plus points.base (map (λ b. point (lone b)) p) (map (λ b. point (lone b)) q) r

pub value-times : (p q : List ℕ) (r : Point) → value (times byte_ops p q) r ≡ value p r ⊠ value q r
unfolding value
value-times p q r =
    ap (λ (s : List Point). eval (ops points.base) s r)
    (map-times byte_ops (ops points.base) (λ b. point (lone b)) lone-homomorphism p q)
    ∙ eval-times points.base (map (λ b. point (lone b)) p) (map (λ b. point (lone b)) q) r
