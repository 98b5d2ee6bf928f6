-- 12 and 11 first; past them what the call takes decides.
use Rattle.std.proofs.Common.{refl, sym, true, ◌∙◌, ◌≡◌}
use Rattle.calls.specs.Verifier.{intact, response_checks}
use Rattle.verifier.specs.Held.{held}
use Rattle.verifier.specs.Laws.{state-refused, state-passed, due-intact, held-runs}
use Rattle.verifier.proofs.Verifier.response_checks.Goals as goal
use Rattle.verifier.proofs.Verifier.response_checks.Goals.{In_ok-state_checks}

whole : (c : In_ok-state_checks) → intact (held c.args.self.now) ≡ true
whole c = due-intact _ _ _ (sym c.state_checks.ensures ∙ c.in_ok-state_checks.was) record { begun = refl; still = refl }

pub returns-in_err-state_checks : goal.returns-in_err-state_checks
unfolding response_checks
returns-in_err-state_checks c = state-refused (held c.args.self.now) _ c.state_checks.ensures c.in_err-state_checks.was c.from_residual.ensures.1 _

pub messages3_length-length-requires : goal.messages3_length-length-requires
messages3_length-length-requires c = (held-runs _ (whole (goal.at.messages3_length-length-requires c).In_ok-state_checks)).most

pub returns : goal.returns
unfolding response_checks
returns c = rw (state-passed _ _ _ (sym c.state_checks.ensures ∙ c.in_ok-state_checks.was) _, ← c.messages3_length-length.ensures) c.require.ensures
