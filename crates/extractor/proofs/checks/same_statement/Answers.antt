-- Each return has the tests that the definition is made of.
use Rattle.std.proofs.Common.{sym, ◌∙◌}
use Rattle.extractor.proofs.checks.same_statement.Goals as goal

pub returns-then-equal-2 : goal.returns-then-equal-2
returns-then-equal-2 c = rw (sym c.equal.ensures ∙ c.if-equal.true, sym c.equal-then-equal.ensures ∙ c.if-equal-2.true) c.equal-then-equal-2.ensures

pub returns-else-equal-2 : goal.returns-else-equal-2
returns-else-equal-2 c =
    rw (sym c.equal.ensures ∙ c.if-equal.true, sym c.equal-then-equal.ensures ∙ c.if-equal-2.false) c.if-equal-2.false

pub returns-else-equal : goal.returns-else-equal
returns-else-equal c = rw (sym c.equal.ensures ∙ c.if-equal.false) c.if-equal.false
