-- Each check has the value of its test, and those before it hold.
use Rattle.std.proofs.Common.{eqb-true, not, refl, sym, true, ◌∙◌, ◌≡◌}
use Rattle.lists.specs.Checks.Laws.{and_left}
use Rattle.answers.specs.Checks.Laws.{require-passed, require-refused}
use Rattle.shake256.specs.Fips.{SHAKE256}
use Rattle.exchange.specs.Values.{key_of}
use Rattle.calls.specs.Prover.{closed, points_due}
use Rattle.prover.specs.Arguments.{Limited}
use Rattle.prover.specs.Checks.{closed-test, begun-test, points-row, points-ready}
use Rattle.prover.specs.Held.{held}
use Rattle.prover.proofs.Prover.points_checks.Goals as goal
use Rattle.prover.proofs.Prover.points_checks.Goals.{In_ok-require, In_ok-require-2}

here : (c : In_ok-require) → true ≡ not (closed (held c.args.self.now))
here c =
    sym (require-passed c.ne.result _ c.require.ensures c.in_ok-require.was) ∙ closed-test (held c.args.self.now) _ c.standing-phase.ensures _ c.ne.ensures

due : (c : In_ok-require-2) → true ≡ points_due (held c.args.self.now)
due c =
    sym (require-passed c.eq.result _ c.require-2.ensures c.in_ok-require-2.was) ∙ begun-test (held c.args.self.now) _ c.standing-phase.ensures _ c.eq.ensures

limits : (c : In_ok-require-2) → Limited c.args.self.now.parameters c.args.self.now.runs
limits c = (points-ready (held c.args.self.now) (sym (due c))).limits

pub returns-in_err-require : goal.returns-in_err-require
returns-in_err-require c =
    let a = c.args in
    require-refused _ _ _ c.require.ensures c.in_err-require.was c.from_residual.ensures.1
    ∙ points-row SHAKE256 (held a.self.now) a.work.now a.out.now (key_of a.matrix.now a.y.now) a.message2.now _ _ _ _
    (closed-test (held a.self.now) _ c.standing-phase.ensures _ c.ne.ensures) refl refl refl

pub returns-in_err-require-2 : goal.returns-in_err-require-2
returns-in_err-require-2 c =
    let a = c.args in
    require-refused _ _ _ c.require-2.ensures c.in_err-require-2.was c.from_residual-in_err-require-2.ensures.1
    ∙ points-row SHAKE256 (held a.self.now) a.work.now a.out.now (key_of a.matrix.now a.y.now) a.message2.now true _ _ _
    (here (goal.at.returns-in_err-require-2 c).In_ok-require) (begun-test (held a.self.now) _ c.standing-phase.ensures _ c.eq.ensures) refl refl

pub points_lengths-requires : goal.points_lengths-requires
points_lengths-requires c = limits (goal.at.points_lengths-requires c).In_ok-require-2

pub returns-in_err-require-3 : goal.returns-in_err-require-3
returns-in_err-require-3 c =
    let a = c.args in
    require-refused _ _ _ c.require-3.ensures c.in_err-require-3.was c.from_residual-in_err-require-3.ensures.1
    ∙ points-row SHAKE256 (held a.self.now) a.work.now a.out.now (key_of a.matrix.now a.y.now) a.message2.now true true _ _
    (here (goal.at.returns-in_err-require-3 c).In_ok-require) (due (goal.at.returns-in_err-require-3 c).In_ok-require-2) c.points_lengths.ensures refl

pub distinct_points-requires : goal.distinct_points-requires
distinct_points-requires c =
    let h = limits (goal.at.distinct_points-requires c).In_ok-require-2 in
    let sized = sym c.points_lengths.ensures ∙ require-passed c.points_lengths.result _ c.require-3.ensures c.in_ok-require-3.was in
    (h.within, h.counted.most, eqb-true _ _ (and_left _ _ sized))

pub returns : goal.returns
returns c =
    let a = c.args in
    c.require-4.ensures
    ∙ points-row SHAKE256 (held a.self.now) a.work.now a.out.now (key_of a.matrix.now a.y.now) a.message2.now true true true _
    (here (goal.at.returns c).In_ok-require) (due (goal.at.returns c).In_ok-require-2)
    (sym (require-passed c.points_lengths.result _ c.require-3.ensures c.in_ok-require-3.was) ∙ c.points_lengths.ensures) c.distinct_points.ensures
