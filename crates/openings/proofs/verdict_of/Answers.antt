-- Each check has the value of its test.
use Rattle.std.proofs.Common.{sym, ◌∙◌}
use Rattle.answers.specs.Checks.Laws.{require-passed, require-refused}
use Rattle.openings.specs.From.{judged}
use Rattle.openings.proofs.verdict_of.Goals as goal

pub returns-in_err-require : goal.returns-in_err-require
unfolding judged
returns-in_err-require c = rw (← c.commitment_agrees.ensures) (require-refused _ _ _ c.require.ensures c.in_err-require.was c.from_residual.ensures.1)

pub returns : goal.returns
unfolding judged
returns c =
    rw (
      sym c.commitment_agrees.ensures ∙ require-passed c.commitment_agrees.result _ c.require.ensures c.in_ok-require.was,
      ← c.response_agrees.ensures,
    ) c.require-2.ensures
