-- When a key is refused, and with which number (document 01, "Numbers caused by the input").
--
--   key_lengths p h y x_a    matrix, y and x_A have the lengths that the parameters say: m−k rows of k bytes, m−k and k bytes
--   key_checks p h y x_a     the checks of a key in document 01's order: 1 parameters, 2 lengths, 3 weight
--   key_answer p h y x_a     what they answer
use Rattle.std.specs.Prelude.{Bool, ◌&&◌, List, [], ◌∷◌, ℕ, eqb, leb, length}
use Rattle.answers.specs.declared.Refusal.{Refusal}
use Rattle.answers.specs.declared.Refusal.TheVariants.{Parameter, Length, Weight}
use Rattle.answers.specs.Answer.{Answer}
use Rattle.answers.specs.Checks.{checks}
use Rattle.parameters.specs.declared.Parameters.{Parameters}
use Rattle.parameters.specs.Limits.{within_limits}
use Rattle.layout.specs.Layout.{y_length, matrix_length}
use Rattle.relation.specs.Key.{vector_of, weight_of}

unfoldable pub key_lengths : Parameters → List ℕ → List ℕ → List ℕ → Bool
key_lengths p h y x_a = eqb (length h) (matrix_length p) && eqb (length y) (y_length p) && eqb (length x_a) p.k

unfoldable pub key_checks : Parameters → List ℕ → List ℕ → List ℕ → List (Bool × Refusal)
key_checks p h y x_a =
    (within_limits p, Parameter) ∷ (key_lengths p h y x_a, Length) ∷ (leb (weight_of (vector_of h y x_a)) p.w, Weight) ∷ []

unfoldable pub key_answer : Parameters → List ℕ → List ℕ → List ℕ → Answer
key_answer p h y x_a = checks (key_checks p h y x_a)
