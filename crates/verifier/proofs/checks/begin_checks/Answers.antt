-- Each check has the value of its test, and those before it hold.
use Rattle.std.proofs.Common.{sym, true, ◌∙◌, ◌≡◌, ◌&&◌}
use Rattle.answers.specs.Checks.Laws.{require-passed, require-refused}
use Rattle.parameters.specs.Limits.{within_limits}
use Rattle.layout.specs.Runs.{runs_within}
use Rattle.layout.specs.Runs.Laws.{runs-within}
use Rattle.lists.specs.Checks.Laws.{and_right}
use Rattle.calls.specs.Verifier.{begin_checks}
use Rattle.verifier.proofs.checks.begin_checks.Goals as goal
use Rattle.verifier.proofs.checks.begin_checks.Goals.{In_ok-require}

limits : (c : In_ok-require) → (within_limits c.args.p && runs_within c.args.runs) ≡ true
limits c = sym c.within.ensures ∙ require-passed c.within.result _ c.require.ensures c.in_ok-require.was

pub returns-in_err-require : goal.returns-in_err-require
unfolding begin_checks
returns-in_err-require c = rw (← c.within.ensures) (require-refused _ _ _ c.require.ensures c.in_err-require.was c.from_residual.ensures.1)

pub message1_length-requires : goal.message1_length-requires
message1_length-requires c =
    (runs-within c.args.runs (and_right (within_limits c.args.p) _ (limits (goal.at.message1_length-requires c).In_ok-require))).most

pub returns : goal.returns
unfolding begin_checks
returns c = rw (limits (goal.at.returns c).In_ok-require, ← c.message1_length.ensures) c.require-2.ensures
