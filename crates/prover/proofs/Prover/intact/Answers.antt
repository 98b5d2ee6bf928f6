-- Parameters or a run count outside their limits and a heavy x each decide.
use Rattle.std.proofs.Common.{arith, sym, ◌∙◌}
use Rattle.calls.specs.Prover.{held_x}
use Rattle.prover.specs.Arguments.Laws.{limited}
use Rattle.prover.specs.Checks.{intact-then, intact-else}
use Rattle.prover.specs.Held.{held}
use Rattle.prover.proofs.Prover.intact.Goals as goal

pub shared_ref_as_front-within_weight : goal.shared_ref_as_front-within_weight
shared_ref_as_front-within_weight c =
    let h = limited _ _ (sym c.within.ensures ∙ c.if-within.true) in let w = h.within in omega (arith, w)

pub returns-then-within : goal.returns-then-within
unfolding held_x
returns-then-within c = c.within_weight.ensures ∙ sym (intact-then (held c.args.self.now) (sym c.within.ensures ∙ c.if-within.true))

pub returns-else-within : goal.returns-else-within
returns-else-within c = c.if-within.false ∙ sym (intact-else (held c.args.self.now) (sym c.within.ensures ∙ c.if-within.false))
