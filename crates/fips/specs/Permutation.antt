-- KECCAK-f[1600] = KECCAK-p[1600, 24] (FIPS 202, 3.3 and 3.4) on a state of 25 lanes.
--
--   round c          Rnd with the round constant c                                     3.3
--   rounds k         the first k rounds                                                3.3, Algorithm 7
--   keccak_f          all 24 rounds                                                     3.4
use Rattle.std.specs.Prelude.{ℕ, zero, suc, List, get_or}
use Rattle.fips.specs.Tables.{round_constants}
use Rattle.fips.specs.Steps.{θ, ρ, π, χ, ι}

unfoldable pub round : ℕ → List ℕ → List ℕ
round c a = ι c (χ (π (ρ (θ a))))

unfoldable pub rounds : ℕ → List ℕ → List ℕ
rounds zero a = a
rounds (suc k) a = round (get_or round_constants k 0) (rounds k a)

unfoldable pub keccak_f : List ℕ → List ℕ
keccak_f a = rounds 24 a
