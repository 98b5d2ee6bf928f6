-- The inverse of a byte other than 0.
--
--   ⊗-inverse                   a byte other than 0 times its inverse is 1 (what FIPS 197 means by the inverse)
--   inverse-unique              no other byte has this product
--   log-inverse                 what the inverse by logarithms goes by
use Rattle.std.specs.Prelude.{◌≡◌, refl, ℕ, zero, suc, ◌+◌, ◌-◌, ◌*◌, ◌≤◌, ◌<◌, get_or}
use Rattle.std.proofs.Common.{sym, ap, ◌∙◌, arith}
use Rattle.bytefield.specs.Product.{◌⊗◌}
use Rattle.bytefield.specs.Product.Laws.{⊗-comm, ⊗-assoc, one-⊗}
use Rattle.bytefield.specs.Tables.{logs}
use Rattle.bytefield.specs.Powers.{power, power-lt, power-add}
use Rattle.bytefield.proofs.Laws.Powers.{power-cycle, log-sum, logs_at}
use Rattle.bytefield.specs.Inverse.{squares, inverse}
use Rattle.bytefield.specs.Inverse.Laws.{inverse-lt}

-- ---- squarings of a power of 03: the exponent is doubled
exponent : ℕ → ℕ → ℕ
exponent zero i = 0
exponent (suc k) i = i + i + exponent k (i + i)

squares-power : (k i : ℕ) → squares k (power i) ≡ power (exponent k i)
unfolding squares exponent power
squares-power zero i = refl
squares-power (suc k) i =
    ap (λ (x : ℕ). x ⊗ squares k x) (sym (power-add i i)) ∙ ap (λ (x : ℕ). power (i + i) ⊗ x) (squares-power k (i + i))
    ∙ sym (power-add (i + i) (exponent k (i + i)))

exponent-254 : (i : ℕ) → i + exponent 7 i ≡ 255 * i
unfolding exponent
exponent-254 i = omega arith

inverse-power : (i : ℕ) → power i ⊗ inverse (power i) ≡ 1
unfolding inverse
inverse-power i =
    ap (λ (x : ℕ). power i ⊗ x) (squares-power 7 i) ∙ sym (power-add i (exponent 7 i)) ∙ ap power (exponent-254 i) ∙ power-cycle i

pub ⊗-inverse : (a : ℕ) → 0 < a → a < 256 → a ⊗ inverse a ≡ 1
⊗-inverse a z h =
    ap (λ (x : ℕ). x ⊗ inverse x) (sym (logs_at a z h)) ∙ inverse-power (get_or logs a 0)

pub inverse-unique : (a b : ℕ) → 0 < a → a < 256 → b < 256 → a ⊗ b ≡ 1 → b ≡ inverse a
inverse-unique a b z ha hb e =
    sym (one-⊗ b hb) ∙ ap (λ (x : ℕ). x ⊗ b) (sym (⊗-inverse a z ha)) ∙ regroup
    ∙ ap (λ (x : ℕ). x ⊗ inverse a) e ∙ one-⊗ (inverse a) (inverse-lt a)
  where
    regroup : (a ⊗ inverse a) ⊗ b ≡ (a ⊗ b) ⊗ inverse a
    regroup = ⊗-assoc a (inverse a) b ∙ ap (λ (x : ℕ). a ⊗ x) (⊗-comm (inverse a) b) ∙ sym (⊗-assoc a b (inverse a))

-- what the code goes by: the power at 255 less the logarithm
pub log-inverse : (a i r : ℕ) → 0 < a → a < 256 → i ≤ 255 → power i ≡ a → r ≡ power (255 - i) → r ≡ inverse a
log-inverse a i r z h l p e = e ∙ inverse-unique a (power (255 - i)) z h (power-lt (255 - i)) product
  where
    product : a ⊗ power (255 - i) ≡ 1
    product = sym (log-sum a (power (255 - i)) i (255 - i) p refl) ∙ ap power (omega arith) ∙ power-cycle 1
