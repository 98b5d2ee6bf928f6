-- The run count, which the program's first argument names.
--
-- default_runs        the run count where there is no argument
-- named s            the run count that s names, if it is a decimal of one to three digits without leading zeros
-- count_of n s        what n arguments say, the program's own name among them; s is the first behind the name, and a second one is too many
-- with_runs a n       the checks 10, 1 and 2 of a key, which answered a, with the check of the run count n, a 1: behind 10 and before 2
use Rattle.std.specs.Prelude.{cond, List, Option, None, Some, ℕ, eqb, ltb}
use Rattle.answers.specs.Answer.{Answer}
use Rattle.answers.specs.declared.Refusal.TheVariants.{Parameter}
use Rattle.answers.specs.Number.{answer_number}
use Rattle.answers.specs.Checks.{check}
use Rattle.layout.specs.Runs.{runs_within}
use Rattle.text.specs.Decimal.{is_decimal, value_of}
pub mod Laws

abbrev pub default_runs : ℕ
default_runs = 17

unfoldable pub named : List ℕ → Option ℕ
named s = cond (is_decimal 3 s) (Some (value_of s)) None

unfoldable pub count_of : ℕ → List ℕ → Option ℕ
count_of n s = cond (ltb n 2) (Some default_runs) (cond (eqb n 2) (named s) None)

unfoldable pub with_runs : Answer → ℕ → Answer
with_runs a n = cond (eqb (answer_number a) 10) a (check (runs_within n) Parameter a)
