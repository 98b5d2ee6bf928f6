-- Power sums of a vector over the nonzero bytes, each of which is a power of 03.
--
--   times_each x w       each entry of x times the entry of w at its place
--   entry_of c f         the entry of c that belongs to the nonzero byte f: entries belong to 1, 2, 3 and so on; past its end there are zeros
--   power_sum c o n      the sum, over the first n powers f of 03, of the entry of f times f to the o
--   PowerSums c t       t has 255 entries: entry j is the power sum of exponent 254 − j, over all 255 nonzero bytes
use Rattle.std.specs.Prelude.{◌≡◌, List, [], ◌∷◌, ℕ, zero, suc, ◌-◌, ◌*◌, ◌<◌, length, get_or}
use Rattle.lists.specs.Xor.{◌⊕◌}
use Rattle.bytefield.specs.Product.{◌⊗◌}
use Rattle.bytefield.specs.Powers.{power}

unfoldable pub times_each : List ℕ → List ℕ → List ℕ
times_each [] w = []
times_each (a ∷ x) [] = []
times_each (a ∷ x) (b ∷ w) = a ⊗ b ∷ times_each x w

abbrev pub entry_of : List ℕ → ℕ → ℕ
entry_of c f = get_or c (f - 1) 0

unfoldable pub power_sum : List ℕ → ℕ → ℕ → ℕ
power_sum c o zero = 0
power_sum c o (suc n) = power_sum c o n ⊕ entry_of c (power n) ⊗ power (n * o)

pub record PowerSums (c t : List ℕ) : Type 0 where
  pub count : length t ≡ 255
  pub sum-at : (j : ℕ) → j < 255 → get_or t j 0 ≡ power_sum c (254 - j) 255
