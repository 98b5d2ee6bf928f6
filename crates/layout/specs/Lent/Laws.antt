-- What the test of the lengths says.
--
-- test-lent      the facts that the test stands for
use Rattle.std.specs.Prelude.{◌≡◌, true, ℕ}
use borrow.Author.Tests.{eqb-true, leb-true}
use Rattle.lists.specs.Checks.Laws.{all-at}
use Rattle.parameters.specs.declared.Parameters.{Parameters}
use Rattle.layout.specs.Layout.{y_length, matrix_length, work_length}
use Rattle.layout.specs.Lent.{lent_tests, lent, Lent}

module _ (p : Parameters) (matrix y work : ℕ) where
  pub test-lent : lent p matrix y work ≡ true → Lent p matrix y work
  unfolding lent
  test-lent e =
      let so = all-at (lent_tests p matrix y work) e in
      record {
        matrix-is = eqb-true matrix (matrix_length p) (so 0);
        y-is = eqb-true y (y_length p) (so 1);
        work-fits = leb-true (work_length p) work (so 2);
      }
