-- Laws of what specs/Group.antt defines.
--
--   group             the rule set for `simp (group, G)`: both sides of an equation of sums get one normal form
--   equal-of-sum      a + b = 0 gives b = a
use Rattle.std.specs.Prelude.{◌≡◌}
use Rattle.std.proofs.Common.{sym, ap, ◌∙◌}
use Rattle.cube.specs.Group.{Group2}

-- ---- laws that follow
module _ {A : Type 0} (G : Group2 A) where
  infixl 60 ◌+◌
  open G use {zero as 𝟘, add as ◌+◌}

  pub add_left_comm : (a b c : A) → a + (b + c) ≡ b + (a + c)
  add_left_comm a b c = sym (G.add_assoc a b c) ∙ ap (λ (x : A). x + c) (G.add_comm a b) ∙ G.add_assoc b a c

  pub zero-add : (a : A) → 𝟘 + a ≡ a
  zero-add a = G.add_comm 𝟘 a ∙ G.add-zero a

  pub add-self-left : (a b : A) → a + (a + b) ≡ b
  add-self-left a b = sym (G.add_assoc a a b) ∙ ap (λ (x : A). x + b) (G.add-self a) ∙ zero-add b

  -- the record's laws by names of their own, which a rule set asks for
  pub +assoc : (a b c : A) → (a + b) + c ≡ a + (b + c)
  +assoc = G.add_assoc

  pub +comm : (a b : A) → a + b ≡ b + a
  +comm = G.add_comm

  pub +zero : (a : A) → a + 𝟘 ≡ a
  +zero = G.add-zero

  pub +self : (a : A) → a + a ≡ 𝟘
  +self = G.add-self

  pub ruleset group = (+assoc, +comm, add_left_comm, +zero, zero-add, +self, add-self-left)

  pub add4 : (a b c d : A) → (a + b) + (c + d) ≡ (a + c) + (b + d)
  add4 a b c d = simp group

  pub equal-of-sum : (a b : A) → a + b ≡ 𝟘 → b ≡ a
  equal-of-sum a b e = sym (add-self-left a b) ∙ ap (λ (x : A). a + x) e ∙ +zero a
