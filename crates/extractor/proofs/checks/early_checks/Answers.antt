-- Each return has the checks that came before it.
use Rattle.std.proofs.Common.{Bool, ap, not, sym, true, ◌&&◌, ◌∙◌, ◌≡◌}
use Rattle.std.specs.Prelude.{Ok}
use Rattle.lists.specs.Checks.Laws.{and_left, and_right}
use Rattle.lists.specs.Equal.{eq_list}
use Rattle.answers.specs.Checks.{check}
use Rattle.answers.specs.Checks.Laws.{require-passed, require-refused}
use Rattle.answers.specs.declared.Refusal.TheVariants.{SameLeaf}
use Rattle.parameters.specs.Limits.{within_limits, Within}
use Rattle.parameters.specs.Limits.Laws.{test-within}
use Rattle.layout.specs.Runs.{runs_within}
use Rattle.layout.specs.Runs.Laws.{RunsWithin, runs-within}
use Rattle.exchange.specs.Values.{key_of}
use Rattle.runs.specs.Points.{distinct_points}
use Rattle.extractor.specs.Early.{all_lengths, below, early-is, sized2}
use Rattle.extractor.specs.Messages.{messages}
use Rattle.extractor.proofs.checks.early_checks.Goals as goal
use Rattle.extractor.proofs.checks.early_checks.Goals.{In_ok-require, In_ok-require-2, In_ok-require-3, In_ok-require-4, In_ok-require-5}

limits-hold : (c : In_ok-require) → (within_limits c.args.p && runs_within c.args.runs) ≡ true
limits-hold c = sym c.within.ensures ∙ require-passed _ _ c.require.ensures c.in_ok-require.was

limits : (c : In_ok-require) → Within c.args.p × RunsWithin c.args.runs
limits c = let h = limits-hold c in
    (test-within c.args.p (and_left (within_limits c.args.p) _ h), runs-within c.args.runs (and_right (within_limits c.args.p) _ h))

lengths-hold : (c : In_ok-require-2)
    → all_lengths c.args.p c.args.runs (messages c.args.first) (messages c.args.second) (key_of c.args.matrix.now c.args.y.now) c.args.work.now c.args.out.now ≡ true
lengths-hold c = sym c.all_lengths.ensures ∙ require-passed _ _ c.require-2.ensures c.in_ok-require-2.was

points-hold : (c : In_ok-require-3)
    → (distinct_points c.args.p c.args.runs c.args.first.message2.now && distinct_points c.args.p c.args.runs c.args.second.message2.now) ≡ true
points-hold c = sym c.both_distinct.ensures ∙ require-passed _ _ c.require-3.ensures c.in_ok-require-3.was

leaves-hold : (c : In_ok-require-4) → (below c.args.p c.args.first.leaves.now && below c.args.p c.args.second.leaves.now) ≡ true
leaves-hold c = sym c.both_below.ensures ∙ require-passed _ _ c.require-4.ensures c.in_ok-require-4.was

same-holds : (c : In_ok-require-5) → (eq_list c.args.first.message1.now c.args.second.message1.now
    && (eq_list c.args.first.message2.now c.args.second.message2.now && eq_list c.args.first.message3.now c.args.second.message3.now)) ≡ true
same-holds c = sym c.same_statement.ensures ∙ require-passed _ _ c.require-5.ensures c.in_ok-require-5.was

pub all_lengths-requires : goal.all_lengths-requires
all_lengths-requires c = limits (goal.at.all_lengths-requires c).In_ok-require

pub both_distinct-requires : goal.both_distinct-requires
both_distinct-requires c = let (a, b) = sized2 _ _ _ _ _ _ _ (lengths-hold (goal.at.both_distinct-requires c).In_ok-require-2) in
    (limits (goal.at.both_distinct-requires c).In_ok-require, a, b)

pub both_below-requires : goal.both_below-requires
both_below-requires c = (limits (goal.at.both_below-requires c).In_ok-require).0

pub returns-in_err-require : goal.returns-in_err-require
returns-in_err-require c = rw early-is
    (require-refused _ _ _ (rw c.within.ensures at c.require.ensures) c.in_err-require.was c.from_residual.ensures.1)

pub returns-in_err-require-2 : goal.returns-in_err-require-2
returns-in_err-require-2 c = let at = goal.at.returns-in_err-require-2 c in
    rw (early-is, limits-hold at.In_ok-require)
    (require-refused _ _ _ (rw c.all_lengths.ensures at c.require-2.ensures) c.in_err-require-2.was c.from_residual-in_err-require-2.ensures.1)

pub returns-in_err-require-3 : goal.returns-in_err-require-3
returns-in_err-require-3 c = let at = goal.at.returns-in_err-require-3 c in
    rw (early-is, limits-hold at.In_ok-require, lengths-hold at.In_ok-require-2)
    (require-refused _ _ _ (rw c.both_distinct.ensures at c.require-3.ensures) c.in_err-require-3.was c.from_residual-in_err-require-3.ensures.1)

pub returns-in_err-require-4 : goal.returns-in_err-require-4
returns-in_err-require-4 c = let at = goal.at.returns-in_err-require-4 c in
    rw (early-is, limits-hold at.In_ok-require, lengths-hold at.In_ok-require-2, points-hold at.In_ok-require-3)
    (require-refused _ _ _ (rw c.both_below.ensures at c.require-4.ensures) c.in_err-require-4.was c.from_residual-in_err-require-4.ensures.1)

pub returns-in_err-require-5 : goal.returns-in_err-require-5
returns-in_err-require-5 c = let at = goal.at.returns-in_err-require-5 c in
    rw (early-is, limits-hold at.In_ok-require, lengths-hold at.In_ok-require-2, points-hold at.In_ok-require-3, leaves-hold at.In_ok-require-4)
    (require-refused _ _ _ (rw c.same_statement.ensures at c.require-5.ensures) c.in_err-require-5.was c.from_residual-in_err-require-5.ensures.1)

pub returns : goal.returns
returns c = let at = goal.at.returns c in
    rw (early-is, limits-hold at.In_ok-require, lengths-hold at.In_ok-require-2, points-hold at.In_ok-require-3, leaves-hold at.In_ok-require-4, same-holds at.In_ok-require-5)
    (c.require-6.ensures ∙ ap (λ (b : Bool). check (not b) SameLeaf (Ok tt)) c.equal.ensures)
