-- An opening that was judged writes the session, any other leaves the buffer.
use Rattle.std.proofs.Common.{ap, sym, true, ◌∙◌, ◌≡◌}
use Rattle.answers.specs.Number.{answer_number}
use Rattle.capi.specs.Verifier.{judges}
use Rattle.capi.proofs.verifying.keep_opening.Goals as goal
use Rattle.capi.proofs.verifying.keep_opening.Goals.{Then-is_judged}

so : (c : Then-is_judged) → judges (answer_number c.args.answer) ≡ true
so c = sym (ap judges c.answer_number-n.ensures) ∙ sym c.is_judged.ensures ∙ c.if-is_judged.true

pub write_verifier-requires : goal.write_verifier-requires
write_verifier-requires c = (c.requires.0, c.requires.1 (so (goal.at.write_verifier-requires c).Then-is_judged))

pub returns-then-is_judged : goal.returns-then-is_judged
returns-then-is_judged c = rw (c.answer_number-n.ensures, c.write_verifier.ensures, so (goal.at.returns-then-is_judged c).Then-is_judged)

pub returns-else-is_judged : goal.returns-else-is_judged
returns-else-is_judged c = let n = c.answer_number-n.ensures in rw (n, sym (ap judges n) ∙ sym c.is_judged.ensures ∙ c.if-is_judged.false)
