-- 12 and 11 first; past them what the call takes decides.
use Rattle.std.proofs.Common.{arith, length, length-take-le, refl, sym, true, ◌∙◌, ◌≡◌}
use Rattle.calls.specs.Verifier.{intact, opening_checks}
use Rattle.verifier.specs.Held.{held}
use Rattle.verifier.specs.Laws.{state-refused, state-passed, due-intact, held-within, held-runs}
use Rattle.verifier.proofs.Verifier.opening_checks.Goals as goal
use Rattle.verifier.proofs.Verifier.opening_checks.Goals.{In_ok-state_checks}

whole : (c : In_ok-state_checks) → intact (held c.args.self.now) ≡ true
whole c = due-intact _ _ _ (sym c.state_checks.ensures ∙ c.in_ok-state_checks.was) record { begun = refl; still = refl }

pub returns-in_err-state_checks : goal.returns-in_err-state_checks
unfolding opening_checks
returns-in_err-state_checks c = state-refused (held c.args.self.now) _ c.state_checks.ensures c.in_err-state_checks.was c.from_residual.ensures.1 _

pub shared_ref_as_front-leaves : goal.shared_ref_as_front-leaves
shared_ref_as_front-leaves c = (held-runs _ (whole (goal.at.shared_ref_as_front-leaves c).In_ok-state_checks)).most

pub opening_lengths-sized-requires : goal.opening_lengths-sized-requires
opening_lengths-sized-requires c =
    let h = whole (goal.at.opening_lengths-sized-requires c).In_ok-state_checks in
    let n : length c.args.self.now.leaves ≡ 32 = search in
    let few = (held-runs _ h).most in
    (held-within _ h, omega (arith, length-take-le c.args.self.now.runs c.args.self.now.leaves (omega (arith, n, few)), few))

pub returns : goal.returns
unfolding opening_checks
returns c = rw (state-passed _ _ _ (sym c.state_checks.ensures ∙ c.in_ok-state_checks.was) _, ← c.opening_lengths-sized.ensures) c.require.ensures
