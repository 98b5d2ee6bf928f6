-- Each return has the tests that the definition is made of.
use Rattle.std.proofs.Common.{sym, ◌∙◌}
use Rattle.extractor.proofs.opened.leaf_agrees.Goals as goal

pub returns-then-in_both : goal.returns-then-in_both
returns-then-in_both c = rw (sym c.in_both.ensures ∙ c.if-in_both.true) c.same_leaf.ensures

pub returns-else-in_both : goal.returns-else-in_both
returns-else-in_both c = rw (sym c.in_both.ensures ∙ c.if-in_both.false) c.if-in_both.false
