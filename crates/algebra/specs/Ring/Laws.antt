-- Laws of what specs/Ring.antt defines.
--
--   ring             the rule set for `simp (ring, R)`: both sides of a ring equation get one normal form
--   combine k e h    l = r, from e : p = q and h : l + k p = r + k q
use Rattle.std.specs.Prelude.{◌≡◌}
use Rattle.std.proofs.Common.{sym, ap, ap₂, ◌∙◌}
use Rattle.algebra.specs.Ring.{Ring2}

module _ {K : Type 0} (R : Ring2 K) where
  infixl 60 ◌+◌
  infixl 70 ◌*◌
  open R use {zero as 𝟘, one as 𝟙, add as ◌+◌, mul as ◌*◌}

  -- ---- laws that follow
  pub add_left_comm : (a b c : K) → a + (b + c) ≡ b + (a + c)
  add_left_comm a b c = sym (R.add_assoc a b c) ∙ ap (λ (x : K). x + c) (R.add_comm a b) ∙ R.add_assoc b a c

  pub mul_left_comm : (a b c : K) → a * (b * c) ≡ b * (a * c)
  mul_left_comm a b c = sym (R.mul_assoc a b c) ∙ ap (λ (x : K). x * c) (R.mul_comm a b) ∙ R.mul_assoc b a c

  pub zero-add : (a : K) → 𝟘 + a ≡ a
  zero-add a = R.add_comm 𝟘 a ∙ R.add-zero a

  pub one-mul : (a : K) → 𝟙 * a ≡ a
  one-mul a = R.mul_comm 𝟙 a ∙ R.mul-one a

  pub add-mul : (a b c : K) → (a + b) * c ≡ a * c + b * c
  add-mul a b c = R.mul_comm (a + b) c ∙ R.mul-add c a b ∙ ap₂ ◌+◌ (R.mul_comm c a) (R.mul_comm c b)

  pub add-self-left : (a b : K) → a + (a + b) ≡ b
  add-self-left a b = sym (R.add_assoc a a b) ∙ ap (λ (x : K). x + b) (R.add-self a) ∙ zero-add b

  pub add-cancel : (a b c : K) → a + b ≡ a + c → b ≡ c
  add-cancel a b c e = sym (add-self-left a b) ∙ ap (λ (x : K). a + x) e ∙ add-self-left a c

  pub mul-zero : (a : K) → a * 𝟘 ≡ 𝟘
  mul-zero a = add-cancel (a * 𝟘) (a * 𝟘) 𝟘 (sym (R.mul-add a 𝟘 𝟘) ∙ ap (λ (x : K). a * x) (R.add-zero 𝟘) ∙ sym (R.add-zero (a * 𝟘)))

  pub zero-mul : (a : K) → 𝟘 * a ≡ 𝟘
  zero-mul a = R.mul_comm 𝟘 a ∙ mul-zero a

  -- ---- the record's laws by names of their own, which a rule set asks for
  pub +assoc : (a b c : K) → (a + b) + c ≡ a + (b + c)
  +assoc = R.add_assoc

  pub +comm : (a b : K) → a + b ≡ b + a
  +comm = R.add_comm

  pub +zero : (a : K) → a + 𝟘 ≡ a
  +zero = R.add-zero

  pub +self : (a : K) → a + a ≡ 𝟘
  +self = R.add-self

  pub *assoc : (a b c : K) → (a * b) * c ≡ a * (b * c)
  *assoc = R.mul_assoc

  pub *comm : (a b : K) → a * b ≡ b * a
  *comm = R.mul_comm

  pub *one : (a : K) → a * 𝟙 ≡ a
  *one = R.mul-one

  pub *add : (a b c : K) → a * (b + c) ≡ a * b + a * c
  *add = R.mul-add

  pub ruleset ring = (+assoc, +comm, add_left_comm, +zero, zero-add, +self, add-self-left, *assoc, *comm, mul_left_comm, *one, one-mul, mul-zero, zero-mul, *add, add-mul)

  -- ---- calculation with hypotheses
  pub combine : (k : K) {p q : K} (l r : K) → p ≡ q → l + k * p ≡ r + k * q → l ≡ r
  combine k {p} {q} l r e h =
      add-cancel (k * q) l r (+comm (k * q) l ∙ ap (λ (x : K). l + k * x) (sym e) ∙ h ∙ +comm r (k * q))

  pub equal-of-sum : (a b : K) → a + b ≡ 𝟘 → a ≡ b
  equal-of-sum a b z = combine 𝟙 a b z (simp ring)
