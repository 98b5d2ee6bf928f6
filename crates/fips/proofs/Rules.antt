-- The standard's own algorithms give the same (FIPS 202, Algorithms 1, 2, 5, 6 and 7): the tables of `Tables`, θ, and all rounds.
--
--   walk n t x y l   n turns of Algorithm 2, step 3, from turn t at lane (x, y), writing the offsets into l
--   register t       R of Algorithm 5 after t turns of its step 3, as a number: bit i is R[i]
--   rc t             the bit that Algorithm 5 gives for t
--   constant i       RC of round i: bit 2 ^ j - 1 is rc (j + 7 * i) for j = 0 to 6     Algorithm 6, step 3
--   C a              the five lanes C[x]                                               Algorithm 1, step 1
--   D C              the five lanes D[x]                                               step 2
--   A' a D           the lanes A[x, y] ⊕ D[x]                                          step 3
--   turn c           Rnd with the round constant c, θ by Algorithm 1                   3.3
--   turns k          the first k of these                                              Algorithm 7
use Rattle.std.specs.Prelude.{ℕ, zero, suc, ◌+◌, ◌-◌, ◌*◌, ◌/◌, ◌%◌, ◌^◌, ◌≡◌, refl, List, get_or, set, replicate}
use Rattle.std.proofs.Common.{ap, ◌∙◌}
use Rattle.fips.specs.Tables.{offsets, round_constants}
use Rattle.fips.specs.Steps.{◌⊕◌, tab, lane, rotl, column, θ, ρ, π, χ, ι}
use Rattle.fips.specs.Permutation.{round, rounds, keccak_f}

pub walk : ℕ → ℕ → ℕ → ℕ → List ℕ → List ℕ
walk zero t x y l = l
walk (suc n) t x y l = walk n (t + 1) y ((2 * x + 3 * y) % 5) (set l (x + 5 * y) ((t + 1) * (t + 2) / 2 % 64))

-- Algorithm 2: 24 turns from (1, 0); lane (0, 0) is not rotated
pub offsets-walk : offsets ≡ walk 24 0 1 0 (replicate 25 0)
unfolding walk
offsets-walk = refl

-- Algorithm 5, step 3: R moves up by one place; the bit that leaves at R[8] is added to R[0], R[4], R[5] and R[6]
pub register : ℕ → ℕ
register zero = 1
register (suc t) = (register t * 2 % 2 ^ 8) ⊕ (register t / 2 ^ 7 * (2 ^ 0 + 2 ^ 4 + 2 ^ 5 + 2 ^ 6))

pub rc : ℕ → ℕ
rc t = register (t % 255) % 2

pub constant : ℕ → ℕ
constant i =
    rc (0 + 7 * i) * 2 ^ (2 ^ 0 - 1) + rc (1 + 7 * i) * 2 ^ (2 ^ 1 - 1) + rc (2 + 7 * i) * 2 ^ (2 ^ 2 - 1) + rc (3 + 7 * i) * 2 ^ (2 ^ 3 - 1)
    + rc (4 + 7 * i) * 2 ^ (2 ^ 4 - 1) + rc (5 + 7 * i) * 2 ^ (2 ^ 5 - 1) + rc (6 + 7 * i) * 2 ^ (2 ^ 6 - 1)

pub round_constants-rule : round_constants ≡ tab 24 constant
unfolding register rc constant
round_constants-rule = refl

-- Algorithm 1 takes the xor of each column once, where `θ` says it of each lane
abbrev pub C : List ℕ → List ℕ
C a = tab 5 (column a)

abbrev pub D : List ℕ → List ℕ
D C = tab 5 (λ x. get_or C ((x + 4) % 5) 0 ⊕ rotl (get_or C ((x + 1) % 5) 0) 1)

abbrev pub A' : List ℕ → List ℕ → List ℕ
A' a D = tab 25 (λ i. lane a i (i / 5) ⊕ get_or D (i % 5) 0)

pub θ-steps : (a : List ℕ) → θ a ≡ A' a (D (C a))
unfolding θ
θ-steps a = refl

unfoldable pub turn : ℕ → List ℕ → List ℕ
turn c a = ι c (χ (π (ρ (A' a (D (C a))))))

unfoldable pub turns : ℕ → List ℕ → List ℕ
turns zero a = a
turns (suc k) a = turn (get_or round_constants k 0) (turns k a)

pub round-turn : (c : ℕ) (a : List ℕ) → round c a ≡ turn c a
unfolding round turn
round-turn c a = ap (λ (s : List ℕ). ι c (χ (π (ρ s)))) (θ-steps a)

pub rounds-turns : (k : ℕ) (a : List ℕ) → rounds k a ≡ turns k a
unfolding rounds turns
rounds-turns zero a = refl
rounds-turns (suc k) a = round-turn (get_or round_constants k 0) (rounds k a) ∙ ap (turn (get_or round_constants k 0)) (rounds-turns k a)

-- 3.4: KECCAK-f has 12 + 2ℓ rounds, and ℓ = 6 for lanes of 2 ^ 6 bits
pub keccak_f-turns : (a : List ℕ) → keccak_f a ≡ turns (12 + 2 * 6) a
unfolding keccak_f
keccak_f-turns a = rounds-turns (12 + 2 * 6) a
