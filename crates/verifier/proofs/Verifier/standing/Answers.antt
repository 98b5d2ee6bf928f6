-- A fresh phase and an intact session each keep the phase.
use Rattle.std.proofs.Common.{sym, ◌∙◌}
use Rattle.std.proofs.lemmas.Bool.{false≢true}
use Rattle.verifier_phase.specs.declared.Phase.TheVariants.{Fresh}
use Rattle.verifier_phase.proofs.Laws.Same.{same-step}
use Rattle.calls.specs.Verifier.{standing}
use Rattle.verifier.proofs.Verifier.standing.Goals as goal
use Rattle.verifier.proofs.Verifier.standing.Goals.{then-eq, else-eq}

pub returns-then-intact : goal.returns-then-intact
unfolding standing
returns-then-intact c = elim c.if-eq.branch [
  | then-eq w ↦ rw (sym (same-step c.args.self.now.phase Fresh) ∙ sym c.eq.ensures ∙ w.if-eq.true)
  | else-eq w ↦
      rw (sym (same-step c.args.self.now.phase Fresh) ∙ sym c.eq.ensures ∙ w.if-eq.false, sym w.intact.ensures ∙ sym w.value-is ∙ c.if-intact.true)
]

pub returns-else-intact : goal.returns-else-intact
unfolding standing
returns-else-intact c = elim c.if-eq.branch [
  | then-eq w ↦ absurd (false≢true (sym c.if-intact.false ∙ w.value-is ∙ w.if-eq.true))
  | else-eq w ↦
      rw (sym (same-step c.args.self.now.phase Fresh) ∙ sym c.eq.ensures ∙ w.if-eq.false, sym w.intact.ensures ∙ sym w.value-is ∙ c.if-intact.false)
]
