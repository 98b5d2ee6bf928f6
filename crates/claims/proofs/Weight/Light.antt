-- The field argument: where ε(SQ − PF)(r) has one value for two unequal ε, at m + w different points r, x has at most w entries whose low
-- byte is nonzero.
--
-- low_bytes-bytes         the low bytes of bytes are these bytes
-- up                     a byte as a point
-- up-zero-then, up-zero-when   it is zero exactly where the low byte is
-- Twice d z              d has the product z with two unequal multipliers, so it is zero
-- length-support         how many of the points have an entry with nonzero low byte
-- light-low              the bound
use Rattle.std.specs.Prelude.{◌≡◌, refl}
use Rattle.std.proofs.Math.Path.{sym, ap, ap₂}
use Rattle.std.proofs.Common.{◌∙◌, mod-eq_of_lt}
use mathlib.Core.List.{List, [], ◌∷◌, ◌++◌, map, map-append}
use Prim.Native.Nat.{ℕ, zero, suc, ◌+◌, ◌%◌, ◌≤◌, ◌<◌}
use native.Mathlib.Omega.{arith}
use Rattle.std.proofs.Math.ListN.{length, length-map}
use Rattle.algebra.specs.Each.{Each, Distinct}
use Rattle.algebra.specs.Each.Laws.{each_map}
use Rattle.algebra.specs.Ring.{Ring2, ops}
use Rattle.algebra.specs.Ring.Laws.{ring, equal-of-sum, combine}
use Rattle.algebra.specs.Field.Laws.{no-zero-divisor}
use Rattle.algebra.specs.Polynomial.{eval, vanishing, product, values}
use Rattle.algebra.specs.Polynomial.Maps.{map-eval, map-product}
use Rattle.algebra.specs.Weight.{support, keep_nonzero, weight-bound}
use Rattle.bytefield.specs.Product.{byte_ops}
use Rattle.bytefield.specs.Byte.{Byte, byte, byte_ring, byte-path}
use Rattle.tower.specs.Point.{lone}
use Rattle.tower.specs.Field.{Point, point, lone_of}
use Rattle.tower.proofs.Field.Laws.{point-lone, lone_field}
use Rattle.polynomial.specs.Bytes.{Bytes, in_field}
use Rattle.polynomial.specs.Interpolant.{interpolation_points, interpolant_of, vanishing_of}
use Rattle.polynomial.specs.Interpolant.Laws.{length-ascending, points-distinct, length-interpolant, interpolant-values}
use Rattle.relation.specs.Key.{weight_of}
use Rattle.exchange.specs.Reading.{points, value, ◌⊞◌, ◌⊠◌, 𝟎}
use Rattle.exchange.proofs.Reading.Laws.{lone-homomorphism}
use Rattle.claims.specs.Weight.{low_bytes}

pub low_bytes-bytes : (x : List ℕ) → Bytes x → low_bytes x ≡ x
unfolding low_bytes
low_bytes-bytes [] h = refl
low_bytes-bytes (a ∷ x) h = ap₂ ◌∷◌ (mod-eq_of_lt h.0) (low_bytes-bytes x h.1)

-- ---- bytes as points

abbrev up : ℕ → Point
up b = point (lone b)

-- by way of the field of bytes
map-up : (s : List ℕ) → map up s ≡ map lone_of (in_field s)
map-up [] = refl
map-up (a ∷ s) = ap₂ ◌∷◌ (point-lone a) (map-up s)

lone_of-inj : (a b : Byte) → lone_of a ≡ lone_of b → a ≡ b
lone_of-inj a b e = ap (λ (x : Point). x.0.0) e

up-zero-then : (a : ℕ) → up a ≡ 𝟎 → a % 256 ≡ 0
unfolding points byte byte_ring
up-zero-then a e = ap (λ (x : Point). x.0.0.0) (sym (point-lone a) ∙ e)

up-zero-when : (a : ℕ) → a % 256 ≡ 0 → up a ≡ 𝟎
unfolding points byte byte_ring
up-zero-when a e = point-lone a ∙ ap lone_of (byte-path e)

each-lone : (f : Byte) (fs : List Byte) → Each (λ g. g ≡ f → ⊥) fs → Each (λ x. x ≡ lone_of f → ⊥) (map lone_of fs)
each-lone f [] h = tt
each-lone f (g ∷ fs) h = (λ e. h.0 (lone_of-inj g f e), each-lone f fs h.1)

distinct-lone : (fs : List Byte) → Distinct fs → Distinct (map lone_of fs)
distinct-lone [] h = tt
distinct-lone (f ∷ fs) h = (each-lone f fs h.0, distinct-lone fs h.1)

values-lone : (s fs : List Byte) → values (ops points.base) (map lone_of s) (map lone_of fs) ≡ map lone_of (values (ops byte_ring) s fs)
unfolding points
values-lone s [] = refl
values-lone s (f ∷ fs) = ap₂ ◌∷◌ (sym (map-eval (ops byte_ring) (ops points.base) lone_of lone_field s f)) (values-lone s fs)

-- ---- the support

length-support : (fs : List Point) (x : List ℕ) → length fs ≡ length x → length (support points fs (map up x)) ≡ weight_of (low_bytes x)
unfolding support weight_of low_bytes
length-support [] [] l = refl
length-support [] (a ∷ x) l = absurd (omega arith)
length-support (f ∷ fs) [] l = absurd (omega arith)
length-support (f ∷ fs) (a ∷ x) l = go (points.zero? (up a)) (a % 256) refl (length-support fs x (omega arith))
  where
    go : (d : Dec (up a ≡ 𝟎)) (n : ℕ) → a % 256 ≡ n → length (support points fs (map up x)) ≡ weight_of (low_bytes x)
        → length (keep_nonzero points d f (support points fs (map up x))) ≡ weight_of (n ∷ low_bytes x)
    go (yes z) zero e ih = unfold keep_nonzero weight_of in ih
    go (yes z) (suc n) e ih = absurd (omega (arith, up-zero-then a z))
    go (no z) zero e ih = absurd (z (up-zero-when a e))
    go (no z) (suc n) e ih = unfold keep_nonzero weight_of in ap suc ih

-- ---- two multipliers

pub record Twice (d z : Point) : Type 0 where
  pub ε : Point
  pub ε' : Point
  pub unequal : ε ≡ ε' → ⊥
  pub product : ε ⊠ d ≡ z
  pub product' : ε' ⊠ d ≡ z

module _ {K : Type 0} (R : Ring2 K) where
  infixl 60 ◌+K◌
  infixl 70 ◌*K◌
  open R use {zero as 𝟘, one as 𝟙, add as ◌+K◌, mul as ◌*K◌}

  difference : (e e' d z : K) → e *K d ≡ z → e' *K d ≡ z → (e +K e') *K d ≡ 𝟘
  difference e e' d z h h' = combine R 𝟙 _ _ h (combine R 𝟙 _ _ h' (simp (ring, R)))

twice-zero : (d z : Point) → Twice d z → d ≡ 𝟎
twice-zero d z t =
    no-zero-divisor points (t.ε ⊞ t.ε') d (difference points.base t.ε t.ε' d z t.product t.product')
    (λ e. t.unequal (equal-of-sum points.base t.ε t.ε' e))

-- ---- the bound

module _ (m w : ℕ) (x q P : List ℕ) (x-length : length x ≡ m) (m-most : m < 256) (q-length : length q ≡ w) (P-length : length P ≡ w) where
  interpolation : List Point
  interpolation = map up (interpolation_points m)

  S-values : values (ops points.base) (map up (interpolant_of x)) interpolation ≡ map up x
  unfolding interpolation
  S-values =
      ap₂ (values (ops points.base)) (map-up (interpolant_of x)) (map-up (interpolation_points m))
      ∙ values-lone (in_field (interpolant_of x)) (in_field (interpolation_points m))
      ∙ ap (λ (n : ℕ). map lone_of (values (ops byte_ring) (in_field (interpolant_of x)) (in_field (interpolation_points n)))) (sym x-length)
      ∙ ap (map lone_of) (interpolant-values x (omega arith))
      ∙ sym (map-up x)

  distinct-points : Distinct interpolation
  unfolding interpolation
  distinct-points = rw (map-up (interpolation_points m)) (distinct-lone (in_field (interpolation_points m)) (points-distinct m m-most))

  F-is : map up (vanishing_of m) ≡ vanishing (ops points.base) interpolation
  unfolding interpolation vanishing_of
  F-is =
      map-product byte_ops (ops points.base) up lone-homomorphism (1 ∷ []) (interpolation_points m)
      ∙ ap (λ (o : Point). product (ops points.base) (o ∷ []) (map up (interpolation_points m))) lone-homomorphism.one

  Q-is : map up (q ++ (1 ∷ [])) ≡ map up q ++ (points.base.one ∷ [])
  Q-is = map-append up q (1 ∷ []) ∙ ap (λ (o : Point). map up q ++ (o ∷ [])) lone-homomorphism.one

  -- (SQ + PF)(r)
  unfoldable pub defect : Point → Point
  defect r = value (interpolant_of x) r ⊠ value (q ++ (1 ∷ [])) r ⊞ value P r ⊠ value (vanishing_of m) r

  equal-sides : (z r : Point) → Twice (defect r) z
      → eval (ops points.base) (map up (interpolant_of x)) r ⊠ eval (ops points.base) (map up q ++ (points.base.one ∷ [])) r
      ≡ eval (ops points.base) (map up P) r ⊠ eval (ops points.base) (vanishing (ops points.base) interpolation) r
  unfolding defect value
  equal-sides z r t = rw (← Q-is, ← F-is) (equal-of-sum points.base _ _ (twice-zero _ z t))

  pub light-low : (z : Point) (rs : List Point) → Distinct rs → m + w ≤ length rs → Each (λ r. Twice (defect r) z) rs
      → weight_of (low_bytes x) ≤ w
  unfolding interpolation
  light-low z rs d enough h =
      let lf : length interpolation ≡ m = length-map (interpolation_points m) up ∙ length-ascending 1 m in
      let ls : length (map up (interpolant_of x)) ≡ m = length-map (interpolant_of x) up ∙ length-interpolant x ∙ x-length in
      let lq : length (map up q) ≡ w = length-map q up ∙ q-length in
      let lp : length (map up P) ≡ w = length-map P up ∙ P-length in
      let bound = weight-bound points interpolation (map up x) (map up (interpolant_of x)) (map up q) (map up P) rs S-values distinct-points d
      (omega arith) (omega arith) (each_map (equal-sides z) rs h) in
      let size = length-support interpolation x (lf ∙ sym x-length) in
      omega arith
