-- The listing from what the scanner of a key's text has read.
--
-- read_in n l size          a field of n bytes was read into a slice of l bytes, and its length is size
-- lengths_read p ls m y x   the three fields have the lengths that the parameters say, and slices of m, y and x bytes hold them
-- vector_read p m y x       x, of the fronts of the slices
-- weighed w x              the check 3, and the output, of a key of the right lengths
-- read_tests s m y x        the checks 10, 1 and 2, in this order, of what was read into slices of m, y and x bytes
-- read_checks s m y x       what they answer
-- finish_of s m y x         the output, from a scanner's state and what the slices hold
use Rattle.std.specs.Prelude.{Bool, ◌&&◌, List, [], ◌∷◌, ◌++◌, ℕ, eqb, leb, length, take, get_or}
use Rattle.answers.specs.declared.Refusal.{Refusal}
use Rattle.answers.specs.Answer.{Answer}
use Rattle.answers.specs.declared.Refusal.TheVariants.{Parameter, Length, Weight, Malformed}
use Rattle.answers.specs.Checks.{checks}
use Rattle.parameters.specs.declared.Parameters.{Parameters}
use Rattle.parameters.specs.Limits.{within_limits}
use Rattle.parameters.specs.Set.{parameters_of}
use Rattle.layout.specs.Layout.{y_length, matrix_length}
use Rattle.relation.specs.Key.{vector_of, weight_of}
use Rattle.keytext.specs.declared.KeyScan.{KeyScan}
use Rattle.keytext.specs.Scan.{complete}
use Rattle.keytext.specs.Listing.{printed}

abbrev pub read_in : ℕ → ℕ → ℕ → Bool
read_in n l size = eqb n size && leb size l

unfoldable pub lengths_read : Parameters → List ℕ → ℕ → ℕ → ℕ → Bool
lengths_read p ls m y x = read_in (get_or ls 0 0) m (matrix_length p) && read_in (get_or ls 1 0) y (y_length p) && read_in (get_or ls 2 0) x p.k

abbrev pub vector_read : Parameters → List ℕ → List ℕ → List ℕ → List ℕ
vector_read p m y x = vector_of (take (matrix_length p) m) (take (y_length p) y) (take p.k x)

-- the check 3, and the output, of a key of the right lengths
abbrev pub weighed : ℕ → List ℕ → List ℕ
weighed w x = printed (checks ((leb (weight_of x) w, Weight) ∷ [])) w x

abbrev pub read_tests : KeyScan → ℕ → ℕ → ℕ → List (Bool × Refusal)
read_tests s m y x =
    (complete s, Malformed) ∷ (within_limits (parameters_of s.numbers), Parameter)
    ∷ (lengths_read (parameters_of s.numbers) s.lengths m y x, Length)
    ∷ []

unfoldable pub read_checks : KeyScan → ℕ → ℕ → ℕ → Answer
read_checks s m y x = checks (read_tests s m y x)

unfoldable pub finish_of : KeyScan → List ℕ → List ℕ → List ℕ → List ℕ
finish_of s m y x =
    printed
    (checks (read_tests s (length m) (length y) (length x)
    ++ ((leb (weight_of (vector_read (parameters_of s.numbers) m y x)) (parameters_of s.numbers).w, Weight) ∷ [])))
    (parameters_of s.numbers).w (vector_read (parameters_of s.numbers) m y x)
