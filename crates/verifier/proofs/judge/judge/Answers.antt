-- A run judged: its part of message 5 lies behind those of the runs before it.
use Rattle.std.proofs.Common.{arith, drop, length, length-take-le, sym, ◌++◌, ◌+◌, ◌<◌, ◌∙◌, ◌≡◌, ◌≤◌}
use lib.Seq.{length_front}
use Rattle.lists.specs.Part.Laws.{length-lent}
use Rattle.layout.specs.Runs.Laws.{messages5-most}
use Rattle.verifier.specs.Judging.Laws.{part-inside, turn-first, work-after, turn-next, turn-refused, turn-done}
use Rattle.verifier.specs.Laws.{err-is}
use Rattle.verifier.proofs.judge.judge.Goals as goal
use Rattle.verifier.proofs.judge.judge.Goals.{After-message5_length, After-judge_run, At-loop-e}

inside : (c : After-message5_length) → c.loop-e.place + c.message5_length.result ≤ length c.args.message5.now
inside c = part-inside _ _ _ _ _ _ _ c.requires _ _ _ _ c.loop-e-test.true c.loop-e.invariant.is-place c.from-leaf.ensures c.message5_length.ensures

area-fits : (c : At-loop-e) → c.work_length-area.result ≤ length c.loop-e.work
area-fits c =
    omega (arith, c.work_length-area.ensures, c.requires.lent.work-fits, c.loop-e.invariant.same_length)

kept : (c : After-judge_run) → length (c.judge_run.new.work ++ drop c.work_length-area.result c.loop-e.work) ≡ length c.args.work.now
kept c =
    length_front c.loop-e.work (c.judge_run.new.work) c.work_length-area.result c.judge_run.auto.work ∙ c.loop-e.invariant.same_length

pub loop-e-init : goal.loop-e-init
loop-e-init c = turn-first _ _ _ _ _ _ _ c.requires

pub overflow_add-end : goal.overflow_add-end
overflow_add-end c =
    omega (
      arith,
      inside (goal.at.overflow_add-end c).After-message5_length,
      c.requires.sized-message5,
      messages5-most c.args.p c.requires.within c.args.leaves.now,
      c.requires.few,
    )

pub slice_bounds-judge_run-end : goal.slice_bounds-judge_run-end
slice_bounds-judge_run-end c = inside (goal.at.slice_bounds-judge_run-end c).After-message5_length

pub judge_run-requires : goal.judge_run-requires
judge_run-requires c =
    let few = c.requires.few in
    record {
      within = c.requires.within;
      few = omega (arith, c.loop-e-test.true, few);
      sized-messages = c.requires.sized-messages;
      below = omega (arith, c.requires.below c.loop-e.e c.loop-e-test.true, c.from-leaf.ensures);
      sized-message5 = length-lent _ _ _ (inside (goal.at.judge_run-requires c).After-message5_length) ∙ c.message5_length.ensures;
      sized-matrix = c.requires.lent.matrix-is;
      sized-y = c.requires.lent.y-is;
      sized-work = length-take-le _ _ (area-fits (goal.at.judge_run-requires c).At-loop-e) ∙ c.work_length-area.ensures;
    }

pub loop-e-preserved : goal.loop-e-preserved
loop-e-preserved c =
    turn-next _ _ _ _ _ _ _ c.requires _ _ _ _ _ (c.judge_run.new.work) _ c.loop-e.invariant c.loop-e-test.true c.from-leaf.ensures c.message5_length.ensures
    c.work_length-area.ensures c.judge_run.ensures.work_after _ c.judge_run.ensures.value c.in_ok-judge_run.was (kept (goal.at.loop-e-preserved c).After-judge_run)

pub returns-in_err-judge_run-clause-value : goal.returns-in_err-judge_run-clause-value
returns-in_err-judge_run-clause-value c =
    err-is _ _ c.from_residual.ensures.1
    ∙ sym c.in_err-judge_run.was
    ∙ turn-refused _ _ _ _ _ _ _ c.requires _ _ _ _ _ (c.judge_run.new.work) _ c.loop-e.invariant c.loop-e-test.true c.from-leaf.ensures c.message5_length.ensures
    c.work_length-area.ensures c.judge_run.ensures.work_after _ _ c.judge_run.ensures.value c.in_err-judge_run.was

pub returns-in_err-judge_run-clause-work_after : goal.returns-in_err-judge_run-clause-work_after
returns-in_err-judge_run-clause-work_after c =
    work-after _ _ _ _ _ _ _ c.requires _ _ _ _ _ (c.judge_run.new.work) _ c.loop-e.invariant c.loop-e-test.true c.from-leaf.ensures c.message5_length.ensures
    c.work_length-area.ensures c.judge_run.ensures.work_after

pub returns-clause-value : goal.returns-clause-value
returns-clause-value c = (turn-done _ _ _ _ _ _ _ c.requires _ _ _ c.loop-e.invariant (omega (arith, c.loop-e-test.false))).0

pub returns-clause-work_after : goal.returns-clause-work_after
returns-clause-work_after c = (turn-done _ _ _ _ _ _ _ c.requires _ _ _ c.loop-e.invariant (omega (arith, c.loop-e-test.false))).1
