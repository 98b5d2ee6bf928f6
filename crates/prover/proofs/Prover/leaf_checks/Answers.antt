-- Each check has the value of its test, and those before it hold.
use Rattle.std.proofs.Common.{not, refl, sym, true, ◌∙◌, ◌≡◌}
use Rattle.answers.specs.Checks.Laws.{require-passed, require-refused}
use Rattle.shake256.specs.Fips.{SHAKE256}
use Rattle.exchange.specs.Values.{key_of}
use Rattle.calls.specs.Lengths.{leaves_below}
use Rattle.calls.specs.Prover.{closed, leaf_due}
use Rattle.prover.specs.Arguments.{Limited}
use Rattle.prover.specs.Checks.{closed-test, answered-test, leaf-row, leaf-ready}
use Rattle.prover.specs.Held.{held}
use Rattle.prover.proofs.Prover.leaf_checks.Goals as goal
use Rattle.prover.proofs.Prover.leaf_checks.Goals.{In_ok-require, In_ok-require-2}

here : (c : In_ok-require) → true ≡ not (closed (held c.args.self.now))
here c =
    sym (require-passed c.ne.result _ c.require.ensures c.in_ok-require.was) ∙ closed-test (held c.args.self.now) _ c.standing-phase.ensures _ c.ne.ensures

due : (c : In_ok-require-2) → true ≡ leaf_due (held c.args.self.now)
due c =
    sym (require-passed c.eq.result _ c.require-2.ensures c.in_ok-require-2.was) ∙ answered-test (held c.args.self.now) _ c.standing-phase.ensures _ c.eq.ensures

limits : (c : In_ok-require-2) → Limited c.args.self.now.parameters c.args.self.now.runs
limits c = (leaf-ready (held c.args.self.now) (sym (due c))).limits

pub returns-in_err-require : goal.returns-in_err-require
returns-in_err-require c =
    let a = c.args in
    require-refused _ _ _ c.require.ensures c.in_err-require.was c.from_residual.ensures.1
    ∙ leaf-row SHAKE256 (held a.self.now) a.work.now a.out.now (key_of a.matrix.now a.y.now) a.leaves.now _ _ _ _
    (closed-test (held a.self.now) _ c.standing-phase.ensures _ c.ne.ensures) refl refl refl

pub returns-in_err-require-2 : goal.returns-in_err-require-2
returns-in_err-require-2 c =
    let a = c.args in
    require-refused _ _ _ c.require-2.ensures c.in_err-require-2.was c.from_residual-in_err-require-2.ensures.1
    ∙ leaf-row SHAKE256 (held a.self.now) a.work.now a.out.now (key_of a.matrix.now a.y.now) a.leaves.now true _ _ _
    (here (goal.at.returns-in_err-require-2 c).In_ok-require) (answered-test (held a.self.now) _ c.standing-phase.ensures _ c.eq.ensures) refl refl

pub leaf_lengths-requires : goal.leaf_lengths-requires
leaf_lengths-requires c = limits (goal.at.leaf_lengths-requires c).In_ok-require-2

pub returns-in_err-require-3 : goal.returns-in_err-require-3
returns-in_err-require-3 c =
    let a = c.args in
    require-refused _ _ _ c.require-3.ensures c.in_err-require-3.was c.from_residual-in_err-require-3.ensures.1
    ∙ leaf-row SHAKE256 (held a.self.now) a.work.now a.out.now (key_of a.matrix.now a.y.now) a.leaves.now true true _ _
    (here (goal.at.returns-in_err-require-3 c).In_ok-require) (due (goal.at.returns-in_err-require-3 c).In_ok-require-2) c.leaf_lengths.ensures refl

pub leaves_below-requires : goal.leaves_below-requires
leaves_below-requires c = (limits (goal.at.leaves_below-requires c).In_ok-require-2).within

pub returns : goal.returns
unfolding leaves_below
returns c =
    let a = c.args in
    c.require-4.ensures
    ∙ leaf-row SHAKE256 (held a.self.now) a.work.now a.out.now (key_of a.matrix.now a.y.now) a.leaves.now true true true _
    (here (goal.at.returns c).In_ok-require) (due (goal.at.returns c).In_ok-require-2)
    (sym (require-passed c.leaf_lengths.result _ c.require-3.ensures c.in_ok-require-3.was) ∙ c.leaf_lengths.ensures) c.leaves_below.ensures
