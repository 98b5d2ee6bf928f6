-- Each return has the tests that the definition is made of.
use Rattle.std.proofs.Common.{sym, ◌∙◌}
use Rattle.extractor.proofs.checks.both_distinct.Goals as goal

pub returns-then-distinct_points : goal.returns-then-distinct_points
returns-then-distinct_points c = rw (sym c.distinct_points.ensures ∙ c.if-distinct_points.true) c.distinct_points-then-distinct_points.ensures

pub returns-else-distinct_points : goal.returns-else-distinct_points
returns-else-distinct_points c = rw (sym c.distinct_points.ensures ∙ c.if-distinct_points.false) c.if-distinct_points.false
