-- S from power sums: T is the polynomial of the power sums of the scaled entries of x, and G the complement. T divided by G is S.
--
--   transform-elsewhere, transform-here
--                       T is zero at the bytes above m, and G(f_i)·x_i at each point f_i
--   interpolant-made    if T with these values is r + G·s at every byte, with r shorter than G and m coefficients s, then r is zero and s is S
--
-- At the bytes above m both T and G are zero, so r is zero there, and then everywhere.
use Rattle.std.specs.Prelude.{◌≡◌, refl, List, [], ◌∷◌, ◌++◌, ℕ, zero, suc, ◌+◌, ◌-◌, ◌<◌, length, get_or, replicate}
use Rattle.std.proofs.Common.{sym, ap, ap₂, ◌∙◌, arith, lit<, ext_get_or}
use Rattle.std.proofs.lemmas.List.{length-map}
use Rattle.std.proofs.Math.ListN.{get_or-eq_default}
use Rattle.lists.specs.Xor.{◌⊕◌}
use Rattle.lists.specs.Xor.Laws.{zero-⊕}
use Rattle.algebra.specs.Ring.{ops}
use Rattle.algebra.specs.Each.Laws.{each_from}
use Rattle.algebra.specs.Each.Laws.{each-to-map}
use Rattle.algebra.specs.Polynomial.{eval, values, Zeros}
use Rattle.algebra.specs.Polynomial.Roots.{root-bound}
use Rattle.algebra.specs.Polynomial.Maps.{map-eval}
use Rattle.bytefield.specs.Product.{◌⊗◌, byte_ops}
use Rattle.bytefield.specs.Product.Laws.{⊗-lt, one-⊗, bytefield}
use Rattle.bytefield.specs.Inverse.{inverse}
use Rattle.bytefield.proofs.Laws.Inverse.{⊗-inverse}
use Rattle.bytefield.specs.Byte.{byte, byte_ring}
use Rattle.bytefield.proofs.Laws.Field.{byte_field}
use Rattle.bytefield.specs.Byte.Laws.{byte-zero}
use Rattle.bytefield.specs.Byte.Laws.{byte-homomorphism}
use Rattle.packed.specs.Maps.{get_d-map-in}
use Rattle.interpolants.specs.PowerSum.{times_each, PowerSums}
use Rattle.interpolants.proofs.Laws.Classes.{get_d-times_each}
use Rattle.polynomial.specs.Bytes.{Bytes, in_field}
use Rattle.polynomial.specs.Bytes.Laws.{byte-equal, byte-at, byte-eval}
use Rattle.polynomial.specs.Interpolant.{interpolation_points, interpolant_of}
use Rattle.polynomial.specs.Interpolant.Laws.{length-ascending, ascending-at, ascending-distinct, interpolant-unique}
use Rattle.interpolants.proofs.Laws.Cancel.{⊗-cancel}
use Rattle.interpolants.specs.Complement.{complement_of, scales_of}
use Rattle.interpolants.proofs.Laws.Complement.{missing, bytes-complement, complement-zero, complement-some, scale_at}
use Rattle.interpolants.proofs.Laws.Interpolating.Transform.{transform-value}
pub mod Transform

-- ---- what the power sums are at the points, and elsewhere

module _ (m : ℕ) (x t : List ℕ) (short : m < 256) (long : length x ≡ m) (sums : PowerSums (times_each x (scales_of m)) t) where
  pub transform-elsewhere : (z : ℕ) → m < z → z < 256 → eval byte_ops t z ≡ 0
  transform-elsewhere z h k =
      let past : get_or x (z - 1) 0 ≡ 0 = get_or-eq_default x 0 (omega arith) in
      rw (transform-value (times_each x (scales_of m)) t z sums (omega arith) k, get_d-times_each x (scales_of m) (z - 1), past) (simp bytefield)

  pub transform-here : (i : ℕ) → i < m → eval byte_ops t (1 + i) ≡ eval byte_ops (complement_of m) (1 + i) ⊗ get_or x i 0
  transform-here i h =
      let place : 1 + i - 1 ≡ i = omega arith in
      let once : (g a : ℕ) → a ⊗ ((1 + i) ⊗ g) ⊗ inverse (1 + i) ≡ (1 + i) ⊗ inverse (1 + i) ⊗ (g ⊗ a) = λ g a. simp bytefield in
      rw (transform-value (times_each x (scales_of m)) t (1 + i) sums (omega arith) (omega arith), place, get_d-times_each x (scales_of m) i, scale_at m i h)
      (rw (once (eval byte_ops (complement_of m) (1 + i)) (get_or x i 0), ⊗-inverse (1 + i) (omega arith) (omega arith)) (one-⊗ _ (⊗-lt _ _)))

-- ---- the division by G

pub zeros-value : (n z : ℕ) → eval byte_ops (replicate n 0) z ≡ 0
unfolding eval
zeros-value zero z = refl
zeros-value (suc n) z = ap (λ (v : ℕ). 0 ⊕ z ⊗ v) (zeros-value n z) ∙ simp bytefield

zeros-only : (r : List ℕ) → Bytes r → Zeros (ops byte_ring) (in_field r) → r ≡ replicate (length r) 0
zeros-only [] h z = refl
zeros-only (a ∷ r) h z = ap₂ ◌∷◌ (byte-equal a 0 h.0 (lit< tt) (z.0 ∙ sym byte-zero)) (zeros-only r h.1 z.1)

module _ (m : ℕ) (x t r s : List ℕ) (short : m < 256) (long : length x ≡ m) (bytes-x : Bytes x)
    (elsewhere : (z : ℕ) → m < z → z < 256 → eval byte_ops t z ≡ 0)
    (here : (i : ℕ) → i < m → eval byte_ops t (1 + i) ≡ eval byte_ops (complement_of m) (1 + i) ⊗ get_or x i 0)
    (few : length r ≡ 255 - m) (bytes-r : Bytes r) (bytes-s : Bytes s)
    (divided : (z : ℕ) → eval byte_ops r z ⊕ eval byte_ops (complement_of m) z ⊗ eval byte_ops s z ≡ eval byte_ops t z) where
  remainder-root : (z : ℕ) → m < z → z < 256 → eval byte_ops r z ≡ 0
  remainder-root z h k =
      sym (ap (λ (g : ℕ). eval byte_ops r z ⊕ g ⊗ eval byte_ops s z) (complement-zero m z h k) ∙ simp bytefield) ∙ divided z ∙ elsewhere z h k

  remainder-none : r ≡ replicate (255 - m) 0
  remainder-none =
      zeros-only r bytes-r (root-bound byte_field (in_field (missing m)) (in_field r)
      (omega (arith, length-map r byte, length-map (missing m) byte, length-ascending (1 + m) (255 - m))) (ascending-distinct (1 + m) (255 - m) (omega arith))
      (each-to-map (λ f. eval (ops byte_ring) (in_field r) f ≡ byte_ring.zero) byte (missing m)
      (each_from (λ f. eval (ops byte_ring) (in_field r) (byte f) ≡ byte_ring.zero) 0 (missing m) root)))
      ∙ ap (λ (n : ℕ). replicate n 0) few
    where
      root : (i : ℕ) → i < length (missing m) → eval (ops byte_ring) (in_field r) (byte (get_or (missing m) i 0)) ≡ byte_ring.zero
      root i h =
          let n = length-ascending (1 + m) (255 - m) in
          let a = ascending-at (1 + m) (255 - m) i (omega arith) in
          sym (map-eval byte_ops (ops byte_ring) byte byte-homomorphism r (get_or (missing m) i 0))
          ∙ ap byte (remainder-root (get_or (missing m) i 0) (omega arith) (omega arith)) ∙ byte-zero

  quotient-at : (i : ℕ) → i < m → eval byte_ops s (1 + i) ≡ get_or x i 0
  quotient-at i h =
      ⊗-cancel (eval byte_ops (complement_of m) (1 + i)) (eval byte_ops s (1 + i)) (get_or x i 0)
      (complement-some m (1 + i) (omega arith) short) (byte-eval (complement_of m) (1 + i) (bytes-complement m short))
      (byte-eval s (1 + i) bytes-s) (byte-at i x bytes-x)
      (rw (remainder-none, zeros-value (255 - m) (1 + i), zero-⊕ _) at (divided (1 + i)) ∙ here i h)

  quotient-values : values byte_ops s (interpolation_points (length x)) ≡ x
  quotient-values =
      let n = length-map (interpolation_points (length x)) (eval byte_ops s) in
      let a = length-ascending 1 (length x) in
      ext_get_or 0 (values byte_ops s (interpolation_points (length x))) x (omega arith)
      (λ i h. get_d-map-in (eval byte_ops s) (interpolation_points (length x)) i (omega arith)
      ∙ ap (eval byte_ops s) (ascending-at 1 (length x) i (omega arith)) ∙ quotient-at i (omega arith))

  pub interpolant-made : length s ≡ m → r ++ s ≡ replicate (255 - m) 0 ++ interpolant_of x
  interpolant-made same = ap₂ ◌++◌ remainder-none (interpolant-unique x (omega arith) s bytes-x bytes-s (same ∙ sym long) quotient-values)
