-- Values written as bytes of which any two lie apart.
--
-- distance_self      a byte differs from itself in no bit
-- clear-far          two bytes that lie clear of each other and are not one differ in at least four bits
-- words-apart        the bytes of two values differ in at least four bits
-- near-shut          a byte that differs from a value's in one, two or three bits stands for no value, so it reads as the one kept for that
use Rattle.std.specs.Prelude.{◌≡◌, refl, Bool, true, false, ◌||◌, ◌⊎◌, ℕ, ◌≤◌, eqb, leb}
use Rattle.std.proofs.Common.{sym, ap, ◌∙◌, ⊎_elim, arith, eqb-true, leb-true}
use Rattle.lists.specs.Xor.Laws.{⊕-self}
use Rattle.prover_phase.proofs.Laws.Distance.{ones, distance, clear}

pub distance_self : (a : ℕ) → distance a a ≡ 0
unfolding distance ones
distance_self a = rw (⊕-self a)

pub clear-far : (a b : ℕ) → clear a b ≡ true → (a ≡ b → ⊥) → 4 ≤ distance a b
unfolding clear
clear-far a b h n = go (eqb a b) refl h
  where
    go : (e : Bool) → eqb a b ≡ e → (e || leb 4 (distance a b)) ≡ true → 4 ≤ distance a b
    go true e h = absurd (n (eqb-true a b e))
    go false e h = leb-true 4 (distance a b) h

module _ {A : Type 0} (byte : A → ℕ) (from : ℕ → A) (shut : A) (back : (f : A) → from (byte f) ≡ f) (test : (f g : A) → clear (byte f) (byte g) ≡ true) where
  pub words-apart : (f g : A) → (f ≡ g → ⊥) → 4 ≤ distance (byte f) (byte g)
  words-apart f g n = clear-far (byte f) (byte g) (test f g) (λ e. n (sym (back f) ∙ ap from e ∙ back g))

  pub near-shut : ((b : ℕ) → (from b ≡ shut) ⊎ (b ≡ byte (from b))) → (f : A) (b : ℕ) → 1 ≤ distance (byte f) b → distance (byte f) b ≤ 3 → from b ≡ shut
  near-shut read f b low high = ⊎_elim (λ e. e) (λ e. absurd (clash e)) (read b)
    where
      same : byte f ≡ b → ⊥
      same e = let d : distance (byte f) b ≡ 0 = ap (distance (byte f)) (sym e) ∙ distance_self (byte f) in omega arith

      clash : b ≡ byte (from b) → ⊥
      clash e = let far = clear-far (byte f) b (ap (clear (byte f)) e ∙ test f (from b)) same in omega arith
