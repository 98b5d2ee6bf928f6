-- A fresh phase and an intact session each keep the phase.
use Rattle.std.proofs.Common.{sym, ◌∙◌}
use Rattle.std.proofs.lemmas.Bool.{false≢true}
use Rattle.calls.specs.Prover.{standing}
use Rattle.prover.proofs.Prover.standing.Goals as goal
use Rattle.prover.proofs.Prover.standing.Goals.{then-is_fresh, else-is_fresh}

pub returns-then-intact : goal.returns-then-intact
unfolding standing
returns-then-intact c = elim c.if-is_fresh.branch [
  | then-is_fresh w ↦ rw (sym c.is_fresh.ensures ∙ w.if-is_fresh.true)
  | else-is_fresh w ↦ rw (sym c.is_fresh.ensures ∙ w.if-is_fresh.false, sym w.intact.ensures ∙ sym w.value-is ∙ c.if-intact.true)
]

pub returns-else-intact : goal.returns-else-intact
unfolding standing
returns-else-intact c = elim c.if-is_fresh.branch [
  | then-is_fresh w ↦ absurd (false≢true (sym c.if-intact.false ∙ w.value-is ∙ w.if-is_fresh.true))
  | else-is_fresh w ↦ rw (sym c.is_fresh.ensures ∙ w.if-is_fresh.false, sym w.intact.ensures ∙ sym w.value-is ∙ c.if-intact.false)
]
