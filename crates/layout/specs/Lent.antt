-- The lengths of what every call with a matrix is lent (document 01, Numbers caused by the input, 2).
--
-- lent_tests p matrix y work   m−k rows of k bytes, m−k bytes of y, and a work area that 'may be longer, never shorter', one test each
-- lent p matrix y work        all of them hold
-- Lent p matrix y work        the same as facts
use Rattle.std.specs.Prelude.{◌≡◌, Bool, List, [], ◌∷◌, ℕ, ◌≤◌, eqb, leb}
use Rattle.lists.specs.Checks.{all_true}
use Rattle.parameters.specs.declared.Parameters.{Parameters}
use Rattle.layout.specs.Layout.{y_length, matrix_length, work_length}
pub mod Laws

abbrev pub lent_tests : Parameters → ℕ → ℕ → ℕ → List Bool
lent_tests p matrix y work = eqb matrix (matrix_length p) ∷ eqb y (y_length p) ∷ leb (work_length p) work ∷ []

unfoldable pub lent : Parameters → ℕ → ℕ → ℕ → Bool
lent p matrix y work = all_true (lent_tests p matrix y work)

pub record Lent (p : Parameters) (matrix y work : ℕ) : Type 0 where
  pub matrix-is : matrix ≡ matrix_length p
  pub y-is : y ≡ y_length p
  pub work-fits : work_length p ≤ work
