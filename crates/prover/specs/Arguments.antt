-- What the prover's calls ask of their arguments alone.
--
-- Limited p runs                       parameters and run count are within their limits
-- begin_tests p runs x_a matrix y l      the lengths of the slices that begin is lent, one test each; l has those but of x_A, matrix and y
-- lengths_of salt root work out         the lengths of these slices
-- Sized p runs x_a matrix y l           the slices that begin is lent have the lengths that it asks
-- Weighing p x_a matrix y x             matrix, y and x_A of the lengths that the parameters say, and 255 zeros to make x in
use Rattle.std.specs.Prelude.{◌≡◌, Bool, ◌&&◌, not, List, [], ◌∷◌, ℕ, eqb, leb, length, replicate}
use Rattle.lists.specs.Checks.{all_true}
use Rattle.parameters.specs.declared.Parameters.{Parameters}
use Rattle.parameters.specs.Limits.{within_limits, Within}
use Rattle.layout.specs.Layout.{y_length, matrix_length}
use Rattle.layout.specs.Runs.{runs_within, message1_length}
use Rattle.layout.specs.Runs.Laws.{RunsWithin}
use Rattle.layout.specs.Lent.{lent_tests, Lent}
use Rattle.prover.specs.declared.arguments.Lengths.{Lengths}
pub mod Laws

pub record Limited (p : Parameters) (runs : ℕ) : Type 0 where
  pub within : Within p
  pub counted : RunsWithin runs

unfoldable pub begin_tests : Parameters → ℕ → ℕ → ℕ → ℕ → Lengths → List Bool
begin_tests p runs x_a matrix y l =
    eqb x_a p.k ∷ eqb l.salt 32 ∷ eqb l.root 16 ∷ eqb l.out (message1_length runs) ∷ lent_tests p matrix y l.work

abbrev pub lengths_of : List ℕ → List ℕ → List ℕ → List ℕ → Lengths
lengths_of salt root work out = record { salt = length salt; root = length root; work = length work; out = length out }

pub record Sized (p : Parameters) (runs x_a matrix y : ℕ) (l : Lengths) : Type 0 where
  pub x_a-is : x_a ≡ p.k
  pub salt-is : l.salt ≡ 32
  pub root_is : l.root ≡ 16
  pub out-is : l.out ≡ message1_length runs
  pub lent : Lent p matrix y l.work

pub record Weighing (p : Parameters) (x_a matrix y x : List ℕ) : Type 0 where
  pub within : Within p
  pub x_a-is : length x_a ≡ p.k
  pub matrix-is : length matrix ≡ matrix_length p
  pub y-is : length y ≡ y_length p
  pub zeros : x ≡ replicate 255 0
