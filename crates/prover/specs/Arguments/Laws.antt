-- The laws of the checks of begin.
--
-- limited            what the test of the limits says
-- begin-sized        what the test of the lengths says
-- padded-back        x lent at the front of 255 zeros, and back
use Rattle.std.specs.Prelude.{◌≡◌, Bool, true, ◌&&◌, List, ◌++◌, ℕ, eqb, length, replicate, drop}
use Rattle.std.proofs.Common.{zero-add}
use borrow.Author.Tests.{eqb-true}
use Rattle.lists.specs.Part.{put_at}
use Rattle.lists.specs.Checks.{all_true}
use Rattle.lists.specs.Checks.Laws.{all-at, and_left, and_right}
use Rattle.parameters.specs.declared.Parameters.{Parameters}
use Rattle.parameters.specs.Limits.{within_limits}
use Rattle.parameters.specs.Limits.Laws.{test-within}
use Rattle.layout.specs.Runs.{runs_within, message1_length}
use Rattle.layout.specs.Runs.Laws.{runs-within}
use Rattle.layout.specs.Lent.{lent}
use Rattle.layout.specs.Lent.Laws.{test-lent}
use Rattle.prover.specs.declared.arguments.Lengths.{Lengths}
use Rattle.prover.specs.Arguments.{Limited, begin_tests, Sized}

-- ---- the checks

pub limited : (p : Parameters) (runs : ℕ) → (within_limits p && runs_within runs) ≡ true → Limited p runs
limited p runs e = record {
  within = test-within p (and_left (within_limits p) (runs_within runs) e);
  counted = runs-within runs (and_right (within_limits p) (runs_within runs) e);
}

module _ (p : Parameters) (runs : ℕ) (x_a matrix y : List ℕ) (l : Lengths) where
  abbrev tests : List Bool
  tests = begin_tests p runs (length x_a) (length matrix) (length y) l

  pub begin-sized : all_true tests ≡ true → Sized p runs (length x_a) (length matrix) (length y) l
  unfolding begin_tests lent
  begin-sized e =
      let test = all-at tests e in
      let rest = and_right (eqb l.root 16) _ (and_right (eqb l.salt 32) _ (and_right (eqb (length x_a) p.k) _ e)) in
      record {
        x_a-is = eqb-true (length x_a) p.k (test 0);
        salt-is = eqb-true l.salt 32 (test 1);
        root_is = eqb-true l.root 16 (test 2);
        out-is = eqb-true l.out (message1_length runs) (test 3);
        lent = test-lent p (length matrix) (length y) l.work (and_right (eqb l.out (message1_length runs)) _ rest);
      }

-- ---- x

pub padded-back : (n : ℕ) (x zeros : List ℕ) → length x ≡ n → zeros ≡ replicate 255 0 → x ++ drop n zeros ≡ put_at (replicate 255 0) 0 x
unfolding put_at
padded-back n x zeros e f = rw (f, ← e, zero-add)
