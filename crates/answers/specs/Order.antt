-- Document 01's order of checks, once.
--
-- order              'Order: 10, 12, 11, 1, 2, 3, 4, 13, 8, 9, 5, 6, 7', without 6, which document 02's request 05 leaves unused, and with 14
--                    'straight after 2' (request 02)
-- Conditions         what a call looks at: numbers, each with whether its condition holds
-- holds cs n         the condition of the number n holds; of a number that the call does not look at it never does
-- first_of ns f       the first of the numbers whose condition holds, 0 where none does
-- answer_of cs        the answer by the order: the first number of it whose condition holds, 0 where none does
use Rattle.std.specs.Prelude.{Bool, false, ◌&&◌, ◌||◌, cond, List, [], ◌∷◌, ℕ, eqb}
pub mod Laws

abbrev pub order : List ℕ
order = 10 ∷ 12 ∷ 11 ∷ 1 ∷ 2 ∷ 14 ∷ 3 ∷ 4 ∷ 13 ∷ 8 ∷ 9 ∷ 5 ∷ 7 ∷ []

abbrev pub Conditions : Type 0
Conditions = List (ℕ × Bool)

unfoldable pub holds : Conditions → ℕ → Bool
holds [] n = false
holds (c ∷ cs) n = (eqb n c.0 && c.1) || holds cs n

unfoldable pub first_of : List ℕ → (ℕ → Bool) → ℕ
first_of [] f = 0
first_of (n ∷ ns) f = cond (f n) n (first_of ns f)

unfoldable pub answer_of : Conditions → ℕ
answer_of cs = first_of order (holds cs)
