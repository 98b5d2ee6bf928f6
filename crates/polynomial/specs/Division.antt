-- Division of polynomials by a monic polynomial b, over any operations: long division, coefficient by coefficient from the top.
--
--   degree b         the degree of b: it has one coefficient more
--   remainder p b    what division of p by b leaves: degree b coefficients
--   over p b         the quotient p / b, with as many coefficients as p (the highest ones are zero; document 01: "P = S·Q/F")
use Rattle.std.specs.Prelude.{List, [], ◌∷◌, ℕ, ◌-◌, length, take, get_or, replicate}
use Rattle.algebra.specs.Operations.{Operations}
use Rattle.algebra.specs.Polynomial.{plus, scale}
pub mod Step
pub mod Exact
pub mod Maps

abbrev pub degree : {K : Type 0} → List K → ℕ
degree b = length b - 1

module _ {K : Type 0} (O : Operations K) where
  -- the coefficient of t at the degree of b, by which b goes into t
  abbrev pub lead : List K → List K → K
  lead t b = get_or t (degree b) O.zero

  -- of a + X·p: a + X·(remainder of p), from which b is taken as often as it goes
  unfoldable pub remainder : List K → List K → List K
  remainder [] b = replicate (degree b) O.zero
  remainder (a ∷ p) b =
      plus O (take (degree b) (a ∷ remainder p b)) (scale O (lead (a ∷ remainder p b) b) (take (degree b) b))

  unfoldable pub over : List K → List K → List K
  over [] b = []
  over (a ∷ p) b = lead (a ∷ remainder p b) b ∷ over p b
