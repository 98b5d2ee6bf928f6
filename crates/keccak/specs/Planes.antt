-- A plane, the five lanes of one y, as the code goes through it (FIPS 202, 3.2).
--
--   chi_plane b       χ of the plane b                                                  3.2.4
--   chi_iota b c      the same, c added to its first lane                               3.2.5
use Rattle.std.specs.Prelude.{ℕ, ◌+◌, ◌-◌, ◌%◌, ◌^◌, List, get_or, set}
use Rattle.std.specs.Int.Bits.{bit_and}
use Rattle.fips.specs.Steps.{◌⊕◌, tab}

abbrev pub chi_plane : List ℕ → List ℕ
chi_plane b = tab 5 (λ x. get_or b x 0 ⊕ bit_and (2 ^ 64 - 1 - get_or b ((x + 1) % 5) 0) (get_or b ((x + 2) % 5) 0))

abbrev pub chi_iota : List ℕ → ℕ → List ℕ
chi_iota b c = set (chi_plane b) 0 (get_or (chi_plane b) 0 0 ⊕ c)
