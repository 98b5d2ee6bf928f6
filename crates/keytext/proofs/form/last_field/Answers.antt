-- Each return follows from the tests that led to it.
use Rattle.std.proofs.Common.{eq-eqb, ne_eqb}
use Rattle.keytext.proofs.form.last_field.Goals as goal

pub returns-then-line-eq0 : goal.returns-then-line-eq0
returns-then-line-eq0 c = rw (eq-eqb _ _ c.if-line-eq0.true)

pub returns-else-line-eq0 : goal.returns-else-line-eq0
returns-else-line-eq0 c = rw (ne_eqb _ _ c.if-line-eq0.false)
