-- The set: the numbers of the parameters in the order of the key listing's set line (document 01, Key listing: 'set: m, k, w, D, t').
--
-- set_length          how many numbers a set has
-- numbers_of p        the numbers of the parameters p
-- parameters_of ns    the parameters that the numbers ns name; a number that is missing is 0
use Rattle.std.specs.Prelude.{ℕ, List, [], ◌∷◌, get_or}
use Rattle.parameters.specs.declared.Parameters.{Parameters}
pub mod Laws

abbrev pub set_length : ℕ
set_length = 5

abbrev pub numbers_of : Parameters → List ℕ
numbers_of p = p.m ∷ p.k ∷ p.w ∷ p.axes ∷ p.t ∷ []

abbrev pub parameters_of : List ℕ → Parameters
parameters_of ns = record { m = get_or ns 0 0; k = get_or ns 1 0; w = get_or ns 2 0; axes = get_or ns 3 0; t = get_or ns 4 0 }
