-- The laws of Q and P, for a vector x of bytes that has at most w nonzero entries.
--
--   locator-in-field     Q over the field of bytes
--   length-inside, -outside      there are w points of E and m - w others
--   apart                no point of E is outside E
--   length-locator       Q has w + 1 coefficients
--   locator-monic        they are w low coefficients and a leading 1
--   bytes-locator        Q has bytes as coefficients
--   quotient-factors     P is S divided by X + f for each point f outside E
--   quotient-ratios      P takes at each point of E the value of x there over the distances of the point from those outside E
--   length-quotient      P has w coefficients
--   bytes-quotient       P has bytes as coefficients
--   key-relation         S·Q = P·F
use Rattle.std.specs.Prelude.{◌≡◌, ℕ, suc, ◌+◌, ◌≤◌, ◌<◌, length, take, replicate}
use Rattle.std.proofs.Common.{sym, ◌∙◌, lit<, length-append}
use Rattle.std.proofs.Math.Path.{ap, ap₂}
use mathlib.Core.List.{List, [], ◌∷◌, ◌++◌}
use native.Mathlib.Omega.{arith}
use Rattle.std.proofs.lemmas.List.{length-map}
use Rattle.std.proofs.Math.Seq.{take_at}
use Rattle.algebra.specs.Ring.{ops}
use Rattle.algebra.specs.Each.{Disjoint}
use Rattle.algebra.specs.Marks.{pick, leave}
use Rattle.algebra.specs.Marks.Laws.{length-pick, map-pick}
use Rattle.algebra.specs.Marks.Laws.{length-leave, distinct-leave, pick-apart, map-leave}
use Rattle.algebra.specs.Polynomial.{times, product, quotient, vanishing, interpolate}
use Rattle.algebra.specs.Polynomial.Lengths.{length-product}
use Rattle.algebra.specs.Polynomial.Lengths as lengths
use Rattle.algebra.specs.Polynomial.Products.{leading-product}
use Rattle.algebra.specs.Polynomial.Quotients.{relation}
use Rattle.algebra.specs.Polynomial.Ratios.{distances, ratios, map-ratios, quotient-interpolates}
use Rattle.algebra.specs.Polynomial.Maps.{map-times, map-product, map-quotient, map-interpolate}
use Rattle.bytefield.specs.Product.{byte_ops}
use Rattle.bytefield.specs.Product.Laws.{⊗-lt}
use Rattle.bytefield.specs.Inverse.{inverse}
use Rattle.bytefield.specs.Byte.{Byte, byte, byte_ring, byte_inverse}
use Rattle.bytefield.proofs.Laws.Field.{byte_field}
use Rattle.bytefield.specs.Byte.Laws.{byte_one, byte-inverse, byte-homomorphism}
use Rattle.polynomial.specs.Division.{over}
use Rattle.polynomial.specs.Division.Exact.{over-times}
use Rattle.polynomial.specs.Division.Maps.{map-take, map-over}
use Rattle.polynomial.specs.Bytes.{Bytes, in_field}
use Rattle.polynomial.specs.Bytes.Laws.{bytes-equal, bytes-monic, bytes_take, bytes-times, bytes_product, bytes-interpolate, bytes-over}
use Rattle.polynomial.specs.Bytes.Laws as polynomial
use Rattle.polynomial.specs.Interpolant.{interpolation_points, interpolant_of, vanishing_of}
use Rattle.polynomial.specs.Interpolant.Laws.{length-ascending, distinct-ascending, points-distinct, length-interpolant, bytes-interpolant, interpolant-values, vanishing-in-field, vanishing-leading, length-vanishing}
use Rattle.relation.specs.Key.{weight_of, positions, locator_of, quotient_of}
use Rattle.relation.specs.Key.Polynomials.{inside, outside}
use Rattle.relation.proofs.Laws.Key.Positions.{length-positions, marked-positions, zero-outside}

pub bytes-locator : (w : ℕ) (x : List ℕ) → Bytes (locator_of w x)
unfolding locator_of
bytes-locator w x = bytes_product (1 ∷ []) (pick (positions w x) (interpolation_points (length x))) (lit< tt, tt)

pub bytes-quotient : (w : ℕ) (x : List ℕ) → Bytes (quotient_of w x)
unfolding quotient_of
bytes-quotient w x =
    bytes_take w _ (bytes-over (times byte_ops (interpolant_of x) (locator_of w x)) (vanishing_of (length x)) (bytes-times (interpolant_of x) (locator_of w x)))

bytes-ratios : (gs fs ys : List ℕ) → Bytes (ratios byte_ops inverse gs fs ys)
unfolding ratios
bytes-ratios gs [] ys = tt
bytes-ratios gs (f ∷ fs) [] = tt
bytes-ratios gs (f ∷ fs) (y ∷ ys) = (⊗-lt y (inverse (distances byte_ops f gs)), bytes-ratios gs fs ys)

pub apart : (w : ℕ) (x : List ℕ) → Disjoint (inside w x) (outside w x)
apart w x = pick-apart (positions w x) (interpolation_points (length x)) (distinct-ascending 1 (length x))

module _ (w : ℕ) (x : List ℕ) where
  -- the interpolation points in the field, and those of E
  abbrev points : List Byte
  points = in_field (interpolation_points (length x))

  pub locator-in-field : in_field (locator_of w x) ≡ vanishing (ops byte_ring) (pick (positions w x) points)
  unfolding locator_of
  locator-in-field =
      map-product byte_ops (ops byte_ring) byte byte-homomorphism (1 ∷ []) (pick (positions w x) (interpolation_points (length x)))
      ∙ ap₂ (λ (o : Byte) (l : List Byte). product (ops byte_ring) (o ∷ []) l) byte_one (map-pick byte (positions w x) (interpolation_points (length x)))

  as_many : length (positions w x) ≡ length (interpolation_points (length x))
  as_many = length-positions w x ∙ sym (length-ascending 1 (length x))

  -- ---- a key within its weight
  module _ (light : weight_of x ≤ w) (fits : w ≤ length x) where
    pub length-locator : length (locator_of w x) ≡ w + 1
    unfolding locator_of
    length-locator =
        let a = length-product byte_ops (1 ∷ []) (pick (positions w x) (interpolation_points (length x))) in
        let b = length-pick (positions w x) (interpolation_points (length x)) as_many in
        let c = marked-positions w x light fits in
        omega arith

    pub locator-monic : locator_of w x ≡ take w (locator_of w x) ++ (1 ∷ [])
    locator-monic =
        let l = leading-product byte_ring [] byte_ring.one (pick (positions w x) points) in
        bytes-monic w (locator_of w x) l.0 (bytes-locator w x) length-locator (locator-in-field ∙ l.1)

    pub length-inside : length (inside w x) ≡ w
    length-inside = length-pick (positions w x) (interpolation_points (length x)) as_many ∙ marked-positions w x light fits

    pub length-outside : length (outside w x) + w ≡ length x
    length-outside =
        let b = length-leave (positions w x) (interpolation_points (length x)) as_many in
        let c = marked-positions w x light fits in
        let d = length-ascending 1 (length x) in
        omega arith

    -- S divided by the factors outside E
    length-factors : length (quotient byte_ops (interpolant_of x) (outside w x)) ≡ w
    length-factors =
        let s = length-interpolant x in
        let b = length-outside in
        let a = lengths.length-quotient byte_ops (interpolant_of x) (outside w x) (omega arith) in
        omega arith

    module _ (some : 1 ≤ w) (short : length x < 256) (bytes : Bytes x) where
      abbrev S : List Byte
      S = in_field (interpolant_of x)

      abbrev P : List Byte
      P = quotient (ops byte_ring) S (leave (positions w x) points)

      factors-in-field : in_field (quotient byte_ops (interpolant_of x) (outside w x)) ≡ P
      factors-in-field =
          map-quotient byte_ops (ops byte_ring) byte byte-homomorphism (interpolant_of x) (outside w x)
          ∙ ap (quotient (ops byte_ring) S) (map-leave byte (positions w x) (interpolation_points (length x)))

      length-P : length P ≡ w
      length-P = ap length (sym factors-in-field) ∙ length-map (quotient byte_ops (interpolant_of x) (outside w x)) byte ∙ length-factors

      long : suc (length (leave (positions w x) points)) ≤ length S
      long =
          let a = ap length (map-leave byte (positions w x) (interpolation_points (length x))) in
          let b = length-map (outside w x) byte in
          let c = length-outside in
          let d = length-map (interpolant_of x) byte in
          let s = length-interpolant x in
          omega arith

      products_in_field : times (ops byte_ring) P (in_field (vanishing_of (length x))) ≡ times (ops byte_ring) S (in_field (locator_of w x))
      products_in_field =
          ap (times (ops byte_ring) P) (vanishing-in-field (length x))
          ∙ relation byte_field (positions w x) points S (distinct-leave (positions w x) points (points-distinct (length x) short)) long
          (zero-outside w x S points (interpolant-values x short))
          ∙ ap (times (ops byte_ring) S) (sym locator-in-field)

      -- division of S·Q by F gives P, with zeros above it
      divided : over (ops byte_ring) (times (ops byte_ring) S (in_field (locator_of w x))) (in_field (vanishing_of (length x)))
          ≡ P ++ replicate (length x) byte_ring.zero
      divided =
          let F = vanishing-leading (length x) in
          let l = length-P in
          let n : length F.0 ≡ length x = (
          let a = ap length F.1 in
          let b = length-map (vanishing_of (length x)) byte in
          let c = length-vanishing (length x) in
          let d = length-append F.0 (byte_ring.one ∷ []) in omega arith) in
          ap (λ (p : List Byte). over (ops byte_ring) p (in_field (vanishing_of (length x)))) (sym products_in_field)
          ∙ ap (λ (f : List Byte). over (ops byte_ring) (times (ops byte_ring) P f) f) F.1
          ∙ over-times byte_ring P F.0 (omega arith) (omega arith)
          ∙ ap (λ (m : ℕ). P ++ replicate m byte_ring.zero) n

      quotient-in-field : in_field (quotient_of w x) ≡ P
      unfolding quotient_of
      quotient-in-field =
          map-take byte_ops (ops byte_ring) byte byte-homomorphism w _
          ∙ ap (take w)
          (map-over byte_ops (ops byte_ring) byte byte-homomorphism (times byte_ops (interpolant_of x) (locator_of w x)) (vanishing_of (length x))
          ∙ ap (λ (p : List Byte). over (ops byte_ring) p (in_field (vanishing_of (length x))))
          (map-times byte_ops (ops byte_ring) byte byte-homomorphism (interpolant_of x) (locator_of w x))
          ∙ divided)
          ∙ take_at P (replicate (length x) byte_ring.zero) w length-P

      pub quotient-factors : quotient_of w x ≡ quotient byte_ops (interpolant_of x) (outside w x)
      quotient-factors =
          bytes-equal (quotient_of w x) (quotient byte_ops (interpolant_of x) (outside w x)) (bytes-quotient w x)
          (polynomial.bytes-quotient (interpolant_of x) (outside w x) (bytes-interpolant x bytes))
          (quotient-in-field ∙ sym factors-in-field)

      pub quotient-ratios : quotient_of w x ≡ interpolate byte_ops inverse (inside w x) (ratios byte_ops inverse (outside w x) (inside w x) (pick (positions w x) x))
      quotient-ratios =
          let fs : List ℕ = interpolation_points (length x) in
          let a = length-positions w x in
          let b = length-map fs byte in
          let c = length-ascending 1 (length x) in
          let d = length-map (interpolant_of x) byte in
          let s = length-interpolant x in
          bytes-equal (quotient_of w x) _ (bytes-quotient w x) (bytes-interpolate (inside w x) _ (bytes-ratios (outside w x) (inside w x) (pick (positions w x) x)))
          (quotient-in-field
          ∙ quotient-interpolates byte_field (positions w x) points S (omega arith) (omega arith) (points-distinct (length x) short)
          (zero-outside w x S points (interpolant-values x short))
          ∙ ap (λ (ys : List Byte). interpolate (ops byte_ring) byte_inverse (pick (positions w x) points) (ratios (ops byte_ring) byte_inverse (leave (positions w x) points) (pick (positions w x) points) (pick (positions w x) ys)))
          (interpolant-values x short)
          ∙ sym (map-interpolate byte_ops (ops byte_ring) byte byte-homomorphism inverse byte_inverse byte-inverse (inside w x) _
          ∙ ap₂ (interpolate (ops byte_ring) byte_inverse) (map-pick byte (positions w x) fs)
          (map-ratios byte_ops (ops byte_ring) byte byte-homomorphism inverse byte_inverse byte-inverse (outside w x) (inside w x) (pick (positions w x) x)
          ∙ ap₂ (λ (gs hs : List Byte). ratios (ops byte_ring) byte_inverse gs hs (in_field (pick (positions w x) x))) (map-leave byte (positions w x) fs) (map-pick byte (positions w x) fs)
          ∙ ap (ratios (ops byte_ring) byte_inverse (leave (positions w x) points) (pick (positions w x) points)) (map-pick byte (positions w x) x))))

      pub length-quotient : length (quotient_of w x) ≡ w
      length-quotient = ap length quotient-factors ∙ length-factors

      pub key-relation : times byte_ops (interpolant_of x) (locator_of w x) ≡ times byte_ops (quotient_of w x) (vanishing_of (length x))
      key-relation =
          bytes-equal (times byte_ops (interpolant_of x) (locator_of w x)) (times byte_ops (quotient_of w x) (vanishing_of (length x)))
          (bytes-times (interpolant_of x) (locator_of w x)) (bytes-times (quotient_of w x) (vanishing_of (length x)))
          (map-times byte_ops (ops byte_ring) byte byte-homomorphism (interpolant_of x) (locator_of w x)
          ∙ sym products_in_field
          ∙ ap (λ (p : List Byte). times (ops byte_ring) p (in_field (vanishing_of (length x)))) (sym quotient-in-field)
          ∙ sym (map-times byte_ops (ops byte_ring) byte byte-homomorphism (quotient_of w x) (vanishing_of (length x))))
