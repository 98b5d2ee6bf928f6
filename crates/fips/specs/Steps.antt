-- The step mappings of KECCAK-p[1600] (FIPS 202, 3.2) on a state of 25 lanes of 64 bits.
--
--   a ⊕ b            xor of the bits of two numbers                                    2.3
--   state            a list of 25 numbers below 2 ^ 64                                 3.1.1: bit z of lane (x, y) is A[x, y, z]
--   lane a x y       lane (x mod 5, y mod 5), at x + 5 * y                             3.1.1, 3.1.2
--   tab n f          f 0, f 1, .. : n of them
--   rotl a r         the bits of a, each moved from z to (z + r) mod 64
--   column a x       the xor of the five lanes (x, 0) to (x, 4)                        3.2.1, step 1: C[x]
--   θ ρ π χ          the step mappings                                                 3.2.1 to 3.2.4
--   ι c              the step mapping with the round constant c                        3.2.5
use Rattle.std.specs.Prelude.{ℕ, zero, suc, ◌+◌, ◌-◌, ◌*◌, ◌/◌, ◌%◌, ◌^◌, List, [], ◌∷◌, get_or, set}
use Rattle.std.specs.Int.Bits.{bit_xor, bit_and}
use Rattle.fips.specs.Tables.{offsets}

infixl 65 ◌⊕◌
abbrev pub ◌⊕◌ : ℕ → ℕ → ℕ
a ⊕ b = bit_xor a b

abbrev pub tab_from : ℕ → ℕ → (ℕ → ℕ) → List ℕ
tab_from i zero f = []
tab_from i (suc n) f = f i ∷ tab_from (suc i) n f

abbrev pub tab : ℕ → (ℕ → ℕ) → List ℕ
tab n f = tab_from 0 n f

abbrev pub lane : List ℕ → ℕ → ℕ → ℕ
lane a x y = get_or a (x % 5 + 5 * (y % 5)) 0

unfoldable pub rotl : ℕ → ℕ → ℕ
rotl a r = a * 2 ^ r % 2 ^ 64 + a / 2 ^ (64 - r)

-- 3.2.1: C[x], then A'[x, y] = A[x, y] ⊕ (C[x - 1] ⊕ C[x + 1] rotated by 1)
abbrev pub column : List ℕ → ℕ → ℕ
column a x = (((lane a x 0 ⊕ lane a x 1) ⊕ lane a x 2) ⊕ lane a x 3) ⊕ lane a x 4

unfoldable pub θ : List ℕ → List ℕ
θ a = tab 25 (λ i. lane a i (i / 5) ⊕ (column a (i + 4) ⊕ rotl (column a (i + 1)) 1))

-- 3.2.2: each lane rotated by its offset
unfoldable pub ρ : List ℕ → List ℕ
ρ a = tab 25 (λ i. rotl (get_or a i 0) (get_or offsets i 0))

-- 3.2.3: A'[x, y] = A[x + 3y, x]
unfoldable pub π : List ℕ → List ℕ
π a = tab 25 (λ i. lane a (i + 3 * (i / 5)) i)

-- 3.2.4: A'[x, y] = A[x, y] ⊕ ((A[x + 1, y] ⊕ 1) · A[x + 2, y]), bit by bit
unfoldable pub χ : List ℕ → List ℕ
χ a = tab 25 (λ i. lane a i (i / 5) ⊕ bit_and (2 ^ 64 - 1 - lane a (i + 1) (i / 5)) (lane a (i + 2) (i / 5)))

-- 3.2.5: A'[0, 0] = A[0, 0] ⊕ RC
unfoldable pub ι : ℕ → List ℕ → List ℕ
ι c a = set a 0 (get_or a 0 0 ⊕ c)
