-- Each return has the tests that the definition is made of.
use Rattle.std.proofs.Common.{ap, not, sym, ◌∙◌}
use Rattle.std.proofs.lemmas.Bool.{false≢true}
use Rattle.calls.specs.Prover.{repeated}
use Rattle.prover.proofs.Prover.repeated.Goals as goal
use Rattle.prover.proofs.Prover.repeated.Goals.{then-not-is_fresh, else-not-is_fresh}

pub returns-then-equal : goal.returns-then-equal
unfolding repeated
returns-then-equal c = elim c.if-not-is_fresh.branch [
  | then-not-is_fresh w ↦
      rw (sym (ap not c.is_fresh.ensures) ∙ ap not w.if-not-is_fresh.true, sym w.equal.ensures ∙ sym w.value-is ∙ c.if-equal.true)
      c.equal-then-equal.ensures
  | else-not-is_fresh w ↦ absurd (false≢true (sym (ap not w.if-not-is_fresh.false) ∙ sym w.value-is ∙ c.if-equal.true))
]

pub returns-else-equal : goal.returns-else-equal
unfolding repeated
returns-else-equal c = elim c.if-not-is_fresh.branch [
  | then-not-is_fresh w ↦
      rw (sym (ap not c.is_fresh.ensures) ∙ ap not w.if-not-is_fresh.true, sym w.equal.ensures ∙ sym w.value-is ∙ c.if-equal.false)
      c.if-equal.false
  | else-not-is_fresh w ↦ rw (sym (ap not c.is_fresh.ensures) ∙ ap not w.if-not-is_fresh.false) c.if-equal.false
]
