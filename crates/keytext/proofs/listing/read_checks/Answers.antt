-- Each check has the value of its test, and those before it hold (`read-row`).
use Rattle.std.proofs.Common.{refl, sym, true, ◌∙◌, ◌≡◌}
use Rattle.answers.specs.Checks.Laws.{require-passed, require-refused}
use Rattle.parameters.specs.Limits.{within_limits}
use Rattle.parameters.specs.Limits.Laws.{test-within}
use Rattle.keytext.specs.Scan.{complete}
use Rattle.keytext.proofs.Laws.Finish.{read-row}
use Rattle.keytext.proofs.listing.read_checks.Goals as goal
use Rattle.keytext.proofs.listing.read_checks.Goals.{In_ok-require, In_ok-require-2}

whole : (c : In_ok-require) → true ≡ complete c.args.scan
whole c = sym (require-passed c.complete.result _ c.require.ensures c.in_ok-require.was) ∙ c.complete.ensures

limits : (c : In_ok-require-2) → true ≡ within_limits c.parameters_of-p.result
limits c = sym (require-passed c.within_limits.result _ c.require-2.ensures c.in_ok-require-2.was) ∙ c.within_limits.ensures

pub returns-in_err-require : goal.returns-in_err-require
returns-in_err-require c =
    let a = c.args in
    require-refused _ _ _ c.require.ensures c.in_err-require.was c.from_residual.ensures.1
    ∙ read-row a.scan a.matrix a.y a.x_a refl _ _ _ c.complete.ensures refl refl

pub returns-in_err-require-2 : goal.returns-in_err-require-2
returns-in_err-require-2 c =
    let a = c.args in
    require-refused _ _ _ c.require-2.ensures c.in_err-require-2.was c.from_residual-in_err-require-2.ensures.1
    ∙ read-row a.scan a.matrix a.y a.x_a c.parameters_of-p.ensures true _ _ (whole (goal.at.returns-in_err-require-2 c).In_ok-require) c.within_limits.ensures refl

pub lengths_read-requires : goal.lengths_read-requires
lengths_read-requires c = test-within _ (sym (limits (goal.at.lengths_read-requires c).In_ok-require-2))

pub returns : goal.returns
returns c =
    let a = c.args in
    c.require-3.ensures
    ∙ read-row a.scan a.matrix a.y a.x_a c.parameters_of-p.ensures true true _ (whole (goal.at.returns c).In_ok-require) (limits (goal.at.returns c).In_ok-require-2)
    c.lengths_read.ensures
