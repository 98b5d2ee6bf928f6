-- Powers of 03.
--
--   power n                  03 to the n
--   power-lt, power-add      a power is a byte; powers multiply by adding exponents
use Rattle.std.specs.Prelude.{◌≡◌, ℕ, zero, suc, ◌+◌, ◌<◌}
use Rattle.std.proofs.Common.{sym, ap, ◌∙◌, zero-add, suc-add, lit<}
use Rattle.bytefield.specs.Product.{◌⊗◌}
use Rattle.bytefield.specs.Product.Laws.{⊗-assoc, ⊗-lt, one-⊗}

unfoldable pub power : ℕ → ℕ
power zero = 1
power (suc n) = 3 ⊗ power n

pub power-lt : (n : ℕ) → power n < 256
unfolding power
power-lt zero = lit< tt
power-lt (suc n) = ⊗-lt 3 (power n)

pub power-add : (i j : ℕ) → power (i + j) ≡ power i ⊗ power j
unfolding power
power-add zero j = ap power (zero-add j) ∙ sym (one-⊗ (power j) (power-lt j))
power-add (suc i) j = ap power (suc-add i j) ∙ ap (λ (x : ℕ). 3 ⊗ x) (power-add i j) ∙ sym (⊗-assoc 3 (power i) (power j))
