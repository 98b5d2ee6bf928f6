-- Each return has the tests that the definition is made of.
use Rattle.std.proofs.Common.{sym, ◌∙◌}
use Rattle.extractor.proofs.checks.both_below.Goals as goal

pub returns-then-leaves_below : goal.returns-then-leaves_below
returns-then-leaves_below c = rw (sym c.leaves_below.ensures ∙ c.if-leaves_below.true) c.leaves_below-then-leaves_below.ensures

pub returns-else-leaves_below : goal.returns-else-leaves_below
returns-else-leaves_below c = rw (sym c.leaves_below.ensures ∙ c.if-leaves_below.false) c.if-leaves_below.false
