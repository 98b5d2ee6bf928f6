-- Each return has the tests that the definition is made of.
use Rattle.std.proofs.Common.{ap, not, sym, ◌∙◌}
use Rattle.extractor.specs.Comparison.{apart}
use Rattle.extractor.proofs.opened.leaf_differs.Goals as goal

pub returns-then-in_both : goal.returns-then-in_both
unfolding apart
returns-then-in_both c = rw (sym c.in_both.ensures ∙ c.if-in_both.true) (ap not c.same_leaf.ensures)

pub returns-else-in_both : goal.returns-else-in_both
unfolding apart
returns-else-in_both c = rw (sym c.in_both.ensures ∙ c.if-in_both.false) c.if-in_both.false
