-- 12 and 11 first; past them what the call takes decides.
use Rattle.std.proofs.Common.{refl, sym, true, ◌∙◌, ◌≡◌}
use Rattle.answers.specs.Checks.Laws.{require-passed, require-refused}
use Rattle.calls.specs.Verifier.{intact, leaf_checks}
use Rattle.verifier.specs.Held.{held}
use Rattle.verifier.specs.Laws.{state-refused, state-passed, due-intact, held-within}
use Rattle.calls.specs.Lengths.{leaves_below}
use Rattle.verifier.proofs.Verifier.leaf_checks.Goals as goal
use Rattle.verifier.proofs.Verifier.leaf_checks.Goals.{In_ok-state_checks}

whole : (c : In_ok-state_checks) → intact (held c.args.self.now) ≡ true
whole c = due-intact _ _ _ (sym c.state_checks.ensures ∙ c.in_ok-state_checks.was) record { begun = refl; still = refl }

pub returns-in_err-state_checks : goal.returns-in_err-state_checks
unfolding leaf_checks
returns-in_err-state_checks c = state-refused (held c.args.self.now) _ c.state_checks.ensures c.in_err-state_checks.was c.from_residual.ensures.1 _

pub returns-in_err-require : goal.returns-in_err-require
unfolding leaf_checks
returns-in_err-require c =
    rw (state-passed _ _ _ (sym c.state_checks.ensures ∙ c.in_ok-state_checks.was) _)
    (require-refused _ _ _ c.require.ensures c.in_err-require.was c.from_residual-in_err-require.ensures.1)

pub leaves_below-requires : goal.leaves_below-requires
leaves_below-requires c = held-within _ (whole (goal.at.leaves_below-requires c).In_ok-state_checks)

pub returns : goal.returns
unfolding leaf_checks leaves_below
returns c =
    rw (
      state-passed _ _ _ (sym c.state_checks.ensures ∙ c.in_ok-state_checks.was) _,
      require-passed _ _ c.require.ensures c.in_ok-require.was,
      ← c.leaves_below.ensures,
    ) c.require-2.ensures
