-- The pairs form a ring, and a field where c is irreducible.
--
--   pair                  two pairs with equal parts are equal
--   ext R c               the ring of pairs
--   ext_field F c irr      the field of pairs
--   tower                 the step can be made a second time: c·T is irreducible over the pairs where c is over the field
--   embed                 u ↦ (u, 0) is a homomorphism
--   ext-homomorphism      a homomorphism of the parts is one of the pairs
use Rattle.std.specs.Prelude.{◌≡◌, refl}
use Rattle.std.proofs.Common.{sym, ap, ap₂, ◌∙◌}
use Rattle.algebra.specs.Operations.{Operations, Homomorphism}
use Rattle.algebra.specs.Ring.{Ring2, ops}
use Rattle.algebra.specs.Ring.Laws.{ring, combine}
use Rattle.algebra.specs.Field.{Field2}
use Rattle.algebra.specs.Field.Laws.{no-zero-divisor}
use Rattle.algebra.specs.Extension.{ext_ops, ext_map, Irreducible, norm, ext_inverse}

pub pair : {K : Type 0} {u u' v v' : K} → u ≡ u' → v ≡ v' → ◌≡◌ {A = K × K} (u, v) (u', v')
pair p q = λ i. (p i, q i)

module _ {K : Type 0} (R : Ring2 K) (c : K) where
  infixl 60 ◌+◌
  infixl 70 ◌*◌
  open R use {zero as 𝟘, one as 𝟙, add as ◌+◌, mul as ◌*◌}

  -- the product of ext_ops (ops R) c, written with the ring's own operations for `simp`
  abbrev times : K × K → K × K → K × K
  times x y = (x.0 * y.0 + x.1 * y.1 * c, x.0 * y.1 + x.1 * y.0 + x.1 * y.1)

  pub ext-mul-assoc : (x y z : K × K) → times (times x y) z ≡ times x (times y z)
  ext-mul-assoc x y z = pair (simp (ring, R)) (simp (ring, R))

  pub ext-mul-comm : (x y : K × K) → times x y ≡ times y x
  ext-mul-comm x y = pair (simp (ring, R)) (simp (ring, R))

  pub ext-mul-one : (x : K × K) → times x (𝟙, 𝟘) ≡ x
  ext-mul-one x = pair (simp (ring, R)) (simp (ring, R))

  pub ext-mul-add : (x y z : K × K) → times x (y.0 + z.0, y.1 + z.1)
      ≡ ((times x y).0 + (times x z).0, (times x y).1 + (times x z).1)
  ext-mul-add x y z = pair (simp (ring, R)) (simp (ring, R))

  abbrev pub ext : Ring2 (K × K)
  ext = record {
    zero = (𝟘, 𝟘);
    one = (𝟙, 𝟘);
    add = λ x y. (x.0 + y.0, x.1 + y.1);
    mul = times;
    add_assoc = λ x y z. pair (R.add_assoc x.0 y.0 z.0) (R.add_assoc x.1 y.1 z.1);
    add_comm = λ x y. pair (R.add_comm x.0 y.0) (R.add_comm x.1 y.1);
    add-zero = λ x. pair (R.add-zero x.0) (R.add-zero x.1);
    add-self = λ x. pair (R.add-self x.0) (R.add-self x.1);
    mul_assoc = ext-mul-assoc;
    mul_comm = ext-mul-comm;
    mul-one = ext-mul-one;
    mul-add = ext-mul-add;
  }

  -- ---- u ↦ (u, 0)
  embed-mul : (u v : K) → (u * v, 𝟘) ≡ times (u, 𝟘) (v, 𝟘)
  embed-mul u v = pair (simp (ring, R)) (simp (ring, R))

  pub embed : Homomorphism (ops R) (ops ext) (λ u. (u, 𝟘))
  embed = record {
    zero = refl;
    one = refl;
    add = λ u v. pair refl (sym (R.add-zero 𝟘));
    mul = embed-mul;
  }

-- ---- what carries the operations over does so for pairs
pub ext-homomorphism : {K L : Type 0} (O : Operations K) (P : Operations L) (h : K → L) (c : K) → Homomorphism O P h
    → Homomorphism (ext_ops O c) (ext_ops P (h c)) (ext_map h)
ext-homomorphism {K = K} {L = L} O P h c k = record {
  zero = pair k.zero k.zero;
  one = pair k.one k.zero;
  add = λ x y. pair (k.add x.0 y.0) (k.add x.1 y.1);
  mul = λ x y. pair (low x y) (high x y);
}
  where
    low : (x y : K × K) → h ((ext_ops O c).mul x y).0 ≡ ((ext_ops P (h c)).mul (ext_map h x) (ext_map h y)).0
    low x y =
        k.add _ _
        ∙ ap₂ P.add (k.mul x.0 y.0) (k.mul _ c ∙ ap (λ (z : L). P.mul z (h c)) (k.mul x.1 y.1))

    high : (x y : K × K) → h ((ext_ops O c).mul x y).1 ≡ ((ext_ops P (h c)).mul (ext_map h x) (ext_map h y)).1
    high x y =
        k.add _ _
        ∙ ap₂ P.add (k.add _ _ ∙ ap₂ P.add (k.mul x.0 y.1) (k.mul x.1 y.0)) (k.mul x.1 y.1)

module _ {K : Type 0} (F : Field2 K) (c : K) (irr : Irreducible F.base c) where
  infixl 60 ◌+◌
  infixl 70 ◌*◌
  open F.base use {zero as 𝟘, one as 𝟙, add as ◌+◌, mul as ◌*◌}

  norm-zero : (x : K × K) → norm F.base c x ≡ 𝟘 → x ≡ (𝟘, 𝟘)
  unfolding norm
  norm-zero x e = go (F.zero? x.1) (F.zero? x.0)
    where
      go : Dec (x.1 ≡ 𝟘) → Dec (x.0 ≡ 𝟘) → x ≡ (𝟘, 𝟘)
      go (yes p) (yes q) = pair q p
      go (yes p) (no q) =
          absurd
          (q
          (no-zero-divisor F x.0 x.0
          (combine F.base 𝟙 _ _ e (combine F.base (x.0 + x.1 * c) _ _ p (simp (ring, F.base))))
          q))
      go (no p) q =
          absurd
          (irr (x.0 * F.inv x.1)
          (combine F.base (F.inv x.1 * F.inv x.1) _ _ e
          (combine F.base (x.0 * F.inv x.1 + c * (x.1 * F.inv x.1 + 𝟙)) _ _ (F.mul-inv x.1 p)
          (simp (ring, F.base)))))

  pub ext-mul-inv : (x : K × K) → (x ≡ (𝟘, 𝟘) → ⊥) → (ext F.base c).mul x (ext_inverse F c x) ≡ (𝟙, 𝟘)
  unfolding ext_inverse norm
  ext-mul-inv x n =
      pair
      (combine F.base 𝟙 _ _ (F.mul-inv (norm F.base c x) (λ e. n (norm-zero x e))) (simp (ring, F.base)))
      (simp (ring, F.base))

  pub ext-zero? : (x : K × K) → Dec (x ≡ (𝟘, 𝟘))
  ext-zero? x = go (F.zero? x.0) (F.zero? x.1)
    where
      go : Dec (x.0 ≡ 𝟘) → Dec (x.1 ≡ 𝟘) → Dec (x ≡ (𝟘, 𝟘))
      go (yes p) (yes q) = yes (pair p q)
      go (yes p) (no q) = no (λ e. q (ap (λ (y : K × K). y.1) e))
      go (no p) q = no (λ e. p (ap (λ (y : K × K). y.0) e))

  abbrev pub ext_field : Field2 (K × K)
  ext_field = record {
    base = ext F.base c;
    one≢zero = λ e. F.one≢zero (ap (λ (y : K × K). y.0) e);
    zero? = ext-zero?;
    inv = ext_inverse F c;
    mul-inv = ext-mul-inv;
  }

  -- the second part of w² + w is q² + q for w = p + q T
  pub tower : Irreducible (ext F.base c) (𝟘, c)
  tower w e = irr w.1 (combine F.base 𝟙 _ _ (ap (λ (y : K × K). y.1) e) (simp (ring, F.base)))
