-- Each return has what the searches before it found (`Steps`); the rows are parts of what the openings give (`rows-lent`).
use Rattle.std.proofs.Common.{List, ap, arith, drop, sym, take, ℕ, ◌-◌, ◌∙◌, ◌≡◌}
use Rattle.openings.specs.Parts.{rows_in}
use Rattle.openings.specs.Parts.Laws.{rows-lent}
use Rattle.extractor.specs.Comparison.Steps.{response-apart, row_apart, rows-equal}
use Rattle.extractor.specs.Difference.{difference_of}
use Rattle.extractor.specs.Head.{first_below-some}
use Rattle.extractor.proofs.findings.compare.Goals as goal
use Rattle.extractor.proofs.findings.compare.Goals.{After-rows_end-end}

rows : (c : After-rows_end-end) → (o : List ℕ) → take (c.rows_end-end.result - c.states_length-at.result) (drop c.states_length-at.result o) ≡ rows_in c.args.p o
rows c o = rows-lent c.args.p o c.states_length-at.ensures c.rows_end-end.ensures

pub returns-then-is_some : goal.returns-then-is_some
returns-then-is_some c = let r = rows (goal.at.returns-then-is_some c).After-rows_end-end in
    sym (ap difference_of (response-apart _ _ _ _ _ _ (r _) (r _) _ c.first_digest.ensures (sym c.is_some.ensures ∙ c.if-is_some.true)))

pub overflow_add-result : goal.overflow_add-result
overflow_add-result c = omega (arith, (first_below-some _ _ _ (sym c.in-Some.is ∙ c.first_row.ensures)).1, c.requires.within.axes-most)

pub returns-in-Some : goal.returns-in-Some
returns-in-Some c = let r = rows (goal.at.returns-in-Some c).After-rows_end-end in
    sym (ap difference_of (row_apart _ _ _ _ _ _ (r _) (r _) _ c.first_digest.ensures (sym c.is_some.ensures ∙ c.if-is_some.false) _ c.first_row.ensures _ c.in-Some.is))

pub returns : goal.returns
returns c = let r = rows (goal.at.returns c).After-rows_end-end in
    c.compare_leaves.ensures
    ∙ sym (ap difference_of (rows-equal _ _ _ _ _ _ (r _) (r _) _ c.first_digest.ensures (sym c.is_some.ensures ∙ c.if-is_some.false) _ c.first_row.ensures c.in_default.is))
