-- 12 and 11 first; past them what the call takes decides.
use Rattle.std.proofs.Common.{eqb-true, refl, sym, true, ◌∙◌, ◌≡◌}
use Rattle.answers.specs.Checks.Laws.{require-passed, require-refused}
use Rattle.calls.specs.Verifier.{intact, points_checks}
use Rattle.verifier.specs.Held.{held}
use Rattle.verifier.specs.Laws.{state-refused, state-passed, due-intact, held-within, held-runs}
use Rattle.verifier.proofs.Verifier.points_checks.Goals as goal
use Rattle.verifier.proofs.Verifier.points_checks.Goals.{In_ok-state_checks}

whole : (c : In_ok-state_checks) → intact (held c.args.self.now) ≡ true
whole c = due-intact _ _ _ (sym c.state_checks.ensures ∙ c.in_ok-state_checks.was) record { begun = refl; still = refl }

pub returns-in_err-state_checks : goal.returns-in_err-state_checks
unfolding points_checks
returns-in_err-state_checks c = state-refused (held c.args.self.now) _ c.state_checks.ensures c.in_err-state_checks.was c.from_residual.ensures.1 _

pub messages2_length-length-requires : goal.messages2_length-length-requires
messages2_length-length-requires c =
    let h = whole (goal.at.messages2_length-length-requires c).In_ok-state_checks in (held-within _ h, (held-runs _ h).most)

pub returns-in_err-require : goal.returns-in_err-require
unfolding points_checks
returns-in_err-require c =
    rw (state-passed _ _ _ (sym c.state_checks.ensures ∙ c.in_ok-state_checks.was) _, ← c.messages2_length-length.ensures)
    (require-refused _ _ _ c.require.ensures c.in_err-require.was c.from_residual-in_err-require.ensures.1)

pub distinct_points-requires : goal.distinct_points-requires
distinct_points-requires c =
    let h = whole (goal.at.distinct_points-requires c).In_ok-state_checks in (
      held-within _ h,
      (held-runs _ h).most,
      eqb-true _ _ (require-passed _ _ c.require.ensures c.in_ok-require.was) ∙ c.messages2_length-length.ensures,
    )

pub returns : goal.returns
unfolding points_checks
returns c =
    rw (
      state-passed _ _ _ (sym c.state_checks.ensures ∙ c.in_ok-state_checks.was) _,
      ← c.messages2_length-length.ensures,
      require-passed _ _ c.require.ensures c.in_ok-require.was,
      ← c.distinct_points.ensures,
    ) c.require-2.ensures
