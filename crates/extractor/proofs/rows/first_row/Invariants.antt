-- The loop's invariant: the rows of the axes before this one are the same.
use Rattle.std.proofs.Common.{false, ℕ, ◌<◌, ◌≡◌}
use Rattle.extractor.specs.Comparison.{row_at, apart}
use Rattle.extractor.proofs.rows.first_row.Given as goal

abbrev pub invariant-loop-axis : goal.invariant-loop-axis
invariant-loop-axis l = (k : ℕ) → k < l.axis → apart (row_at l.p l.rows) (row_at l.p l.others) k ≡ false
