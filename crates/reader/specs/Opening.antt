-- Message 5 read part by part.
--
-- Asked p m5 s c v   parameters within their limits, room for sibling seeds, commitment, α and β, and a message 5 that has them
-- Parts m s c v n s' c' v'   what three parts become, taken one after another from the start, and how much is left behind them
use Rattle.std.specs.Prelude.{◌≡◌, ℕ, ◌-◌, ◌≤◌, List, length}
use Rattle.parameters.specs.declared.Parameters.{Parameters}
use Rattle.parameters.specs.Limits.{Within}
use Rattle.layout.specs.Layout.{values_length}
use Rattle.reader.specs.Message5.{commitment_place, aux_place}
use Rattle.reader.specs.Taken.{taken, behind}

pub record Asked (p : Parameters) (m5 siblings commitment values : List ℕ) : Type 0 where
  pub within : Within p
  pub siblings-fit : commitment_place p ≤ length siblings
  pub commitment-is : length commitment ≡ 32
  pub values-fit : values_length p ≤ length values
  pub long : aux_place p ≤ length m5

module _ (m s c v : List ℕ) where
  -- where the second and the third part start, and where the rest does
  abbrev pub second : ℕ
  second = behind m 0 s

  abbrev pub third : ℕ
  third = behind m second c

  abbrev pub last : ℕ
  last = behind m third v

pub record Parts (m s c v : List ℕ) (n : ℕ) (s' c' v' : List ℕ) : Type 0 where
  pub siblings-are : s' ≡ taken m 0 s
  pub commitment-is : c' ≡ taken m (second m s c v) c
  pub values-are : v' ≡ taken m (third m s c v) v
  pub left-are : n ≡ length m - last m s c v
