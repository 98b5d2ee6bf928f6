-- The rule of the tables, and powers of 03 modulo it.
--
--   tables-test              the rule, computed over both tables: entry i + 1 of the powers is 03 times entry i, and the
--                            logarithm of i + 1 is below 255 and is the place of i + 1 among the powers
--   powers-at, logs_at, logs-small     the rule at an entry
--   power-255, -cycle, -mod     powers multiply by adding exponents, modulo 255
--   log-sum, wrap            what the product by logarithms goes by
use Rattle.std.specs.Prelude.{◌≡◌, refl, Bool, ℕ, zero, suc, ◌+◌, ◌-◌, ◌*◌, ◌/◌, ◌%◌, ◌≤◌, ◌<◌, T, eqb, ltb, get_or}
use Rattle.std.proofs.Common.{sym, ap, ap₂, ◌∙◌, le_of_suc-le-suc, le_of_lt, arith, eqb→eq, ltb→lt, lit<}
use Rattle.lists.specs.Xor.{◌⊕◌}
use Rattle.lists.specs.Computed.{both, both_left, both_right, all, below}
use Rattle.bytefield.specs.Product.{reduction, xtime, times_bits, ◌⊗◌}
use Rattle.bytefield.specs.Product.Laws.{one-⊗}
use Rattle.bytefield.specs.Tables.{powers, logs}
use Rattle.bytefield.specs.Powers.{power, power-lt, power-add}

-- ---- the rule of the tables, computed once
next-at : ℕ → Bool
next-at i = eqb (get_or powers (suc i) 0) (3 ⊗ get_or powers i 0)

log-at : ℕ → Bool
log-at i = both (ltb (get_or logs (suc i) 0) 255) (eqb (get_or powers (get_or logs (suc i) 0) 0) (suc i))

tables-test : T (all 255 (λ i. both (next-at i) (log-at i)))
unfolding next-at log-at powers logs ◌⊗◌ times_bits xtime reduction ◌⊕◌
tables-test = tt

next-entry : (i : ℕ) → i < 255 → T (next-at i)
next-entry i h = both_left (next-at i) (log-at i) (below 255 (λ i. both (next-at i) (log-at i)) tables-test i h)

log-entry : (i : ℕ) → i < 255 → T (log-at i)
log-entry i h = both_right (next-at i) (log-at i) (below 255 (λ i. both (next-at i) (log-at i)) tables-test i h)

pub powers-at : (i : ℕ) → i < 256 → get_or powers i 0 ≡ power i
unfolding powers power next-at
powers-at zero h = refl
powers-at (suc i) h =
    eqb→eq (get_or powers (suc i) 0) (3 ⊗ get_or powers i 0) (next-entry i (le_of_suc-le-suc h))
    ∙ ap (λ (x : ℕ). 3 ⊗ x) (powers-at i (le_of_lt h))

pub logs-small : (a : ℕ) → 0 < a → a < 256 → get_or logs a 0 < 255
unfolding log-at
logs-small zero z h = omega arith
logs-small (suc a) z h =
    ltb→lt (get_or logs (suc a) 0) 255
    (both_left (ltb (get_or logs (suc a) 0) 255) (eqb (get_or powers (get_or logs (suc a) 0) 0) (suc a)) (log-entry a (le_of_suc-le-suc h)))

pub logs_at : (a : ℕ) → 0 < a → a < 256 → power (get_or logs a 0) ≡ a
unfolding log-at
logs_at zero z h = omega arith
logs_at (suc a) z h =
    sym (powers-at (get_or logs (suc a) 0) (omega (arith, logs-small (suc a) z h)))
    ∙ eqb→eq (get_or powers (get_or logs (suc a) 0) 0) (suc a)
    (both_right (ltb (get_or logs (suc a) 0) 255) (eqb (get_or powers (get_or logs (suc a) 0) 0) (suc a)) (log-entry a (le_of_suc-le-suc h)))

-- ---- exponents add up, modulo 255
power-255-one : power 255 ≡ 1
unfolding powers
power-255-one = sym (powers-at 255 (lit< tt))

pub power-255 : (i : ℕ) → power (255 + i) ≡ power i
power-255 i = power-add 255 i ∙ ap (λ (x : ℕ). x ⊗ power i) power-255-one ∙ one-⊗ (power i) (power-lt i)

pub power-cycle : (i : ℕ) → power (255 * i) ≡ 1
unfolding power
power-cycle zero = refl
power-cycle (suc i) = ap power step ∙ power-255 (255 * i) ∙ power-cycle i
  where
    step : 255 * suc i ≡ 255 + 255 * i
    step = omega arith

pub power-mod : (s : ℕ) → power (s % 255) ≡ power s
power-mod s =
    let e : s ≡ 255 * (s / 255) + s % 255 = omega arith in
    sym (ap power e ∙ power-add (255 * (s / 255)) (s % 255) ∙ ap (λ (x : ℕ). x ⊗ power (s % 255)) (power-cycle (s / 255)) ∙ one-⊗ (power (s % 255)) (power-lt (s % 255)))

pub log-sum : (a b i j : ℕ) → power i ≡ a → power j ≡ b → power (i + j) ≡ a ⊗ b
log-sum a b i j p q = power-add i j ∙ ap₂ ◌⊗◌ p q

pub wrap : (i : ℕ) → 255 ≤ i → power (i - 255) ≡ power i
wrap i h = sym (power-255 (i - 255)) ∙ ap power (omega arith)
