-- Tests that antt computes: one closed test shows a rule at every number below a bound.
--
-- both a b                both tests pass
-- all n f                 the test f passes at each number below n
-- both_left, both_right   what a passed `both` says of each test
-- below                   what a passed `all` says at a number below n
use Rattle.std.proofs.Common.{sym, subst, ⊎_elim, le_of_suc-le-suc, not-suc-le-zero, eq-or-lt_of_le}
use Rattle.std.specs.Prelude.{Bool, true, false, ℕ, zero, suc, ◌<◌, T}

abbrev pub both : Bool → Bool → Bool
both true b = b
both false b = false

abbrev pub all : ℕ → (ℕ → Bool) → Bool
all zero f = true
all (suc n) f = both (f n) (all n f)

pub both_left : (a b : Bool) → T (both a b) → T a
both_left true b t = tt
both_left false b t = t

pub both_right : (a b : Bool) → T (both a b) → T b
both_right true b t = t
both_right false b t = absurd t

pub below : (n : ℕ) (f : ℕ → Bool) → T (all n f) → (k : ℕ) → k < n → T (f k)
below zero f t k h = absurd (not-suc-le-zero h)
below (suc n) f t k h =
    ⊎_elim (λ p. subst (λ (m : ℕ). T (f m)) (sym p) (both_left (f n) (all n f) t))
    (λ p. below n f (both_right (f n) (all n f) t) k p) (eq-or-lt_of_le (le_of_suc-le-suc h))
