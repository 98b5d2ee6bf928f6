-- Each return has the tests that the definition is made of.
use Rattle.std.proofs.Common.{eq-eqb, ne_eqb}
use Rattle.exchange.specs.Extractor.{opened_in_both}
use Rattle.extractor.proofs.opened.in_both.Goals as goal

pub returns-then-leaf-first : goal.returns-then-leaf-first
unfolding opened_in_both
returns-then-leaf-first c = rw (ne_eqb _ _ c.if-leaf-first.true)

pub returns-else-leaf-first : goal.returns-else-leaf-first
unfolding opened_in_both
returns-else-leaf-first c = rw (eq-eqb _ _ c.if-leaf-first.false)
