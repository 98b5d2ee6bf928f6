-- Each check has the value of its test.
use Rattle.std.proofs.Common.{refl, sym, true, ◌∙◌}
use Rattle.answers.specs.Checks.Laws.{require-passed, require-refused}
use Rattle.verifier.specs.Held.{held}
use Rattle.verifier.specs.Laws.{state-row}
use Rattle.verifier.proofs.Verifier.state_checks.Goals as goal

pub returns-in_err-require : goal.returns-in_err-require
returns-in_err-require c =
    require-refused _ _ _ c.require.ensures c.in_err-require.was c.from_residual.ensures.1
    ∙ state-row (held c.args.self.now) c.args.here _ c.standing-counted.ensures _ _ c.ne.ensures refl

pub returns : goal.returns
returns c =
    c.require-2.ensures
    ∙ state-row (held c.args.self.now) c.args.here _ c.standing-counted.ensures true _
    (sym (require-passed c.ne.result _ c.require.ensures c.in_ok-require.was) ∙ c.ne.ensures) c.eq.ensures
