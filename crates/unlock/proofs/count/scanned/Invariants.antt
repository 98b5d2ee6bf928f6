-- The loop's invariant: what is left of the text leads from the present state to that of the whole text (`digit-more`).
use Rattle.std.proofs.Common.{drop, ◌≡◌}
use Rattle.text.specs.Fold.{fold}
use Rattle.text.specs.Scanner.Decimal.{decimal_start, decimal_step}
use Rattle.unlock.proofs.count.scanned.Given as goal

abbrev pub invariant-loop-b : goal.invariant-loop-b
invariant-loop-b l = fold (decimal_step 3) l.scan (drop l.b-index l.text) ≡ fold (decimal_step 3) decimal_start l.text
