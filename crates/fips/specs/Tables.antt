-- The two tables of KECCAK-p[1600] (FIPS 202). `Rules` computes both by the standard's algorithms.
--
--   offsets          the rotation offset of lane (x, y), at x + 5 * y                  3.2.2, Table 2, modulo 64
--   round_constants   RC for the rounds 0 to 23, as numbers: bit z is RC[z]             3.2.5
use Rattle.std.specs.Prelude.{ℕ, List, [], ◌∷◌}

abbrev pub offsets : List ℕ
offsets =
    0 ∷ 1 ∷ 62 ∷ 28 ∷ 27
    ∷ 36 ∷ 44 ∷ 6 ∷ 55 ∷ 20
    ∷ 3 ∷ 10 ∷ 43 ∷ 25 ∷ 39
    ∷ 41 ∷ 45 ∷ 15 ∷ 21 ∷ 8
    ∷ 18 ∷ 2 ∷ 61 ∷ 56 ∷ 14 ∷ []

abbrev pub round_constants : List ℕ
round_constants =
    0x0000000000000001 ∷ 0x0000000000008082 ∷ 0x800000000000808a ∷ 0x8000000080008000
    ∷ 0x000000000000808b ∷ 0x0000000080000001 ∷ 0x8000000080008081 ∷ 0x8000000000008009
    ∷ 0x000000000000008a ∷ 0x0000000000000088 ∷ 0x0000000080008009 ∷ 0x000000008000000a
    ∷ 0x000000008000808b ∷ 0x800000000000008b ∷ 0x8000000000008089 ∷ 0x8000000000008003
    ∷ 0x8000000000008002 ∷ 0x8000000000000080 ∷ 0x000000000000800a ∷ 0x800000008000000a
    ∷ 0x8000000080008081 ∷ 0x8000000000008080 ∷ 0x0000000080000001 ∷ 0x8000000080008008 ∷ []
