-- The loop's invariant: the share is added on the axes passed (`added_to`); a turn adds it on one axis more (`added_more`).
use Rattle.std.proofs.Common.{length, ◌≡◌}
use Rattle.parties.specs.Sums.Adding.{added_to}
use Rattle.parties.proofs.add_leaf.Given as goal

abbrev pub invariant-loop-axis : goal.invariant-loop-axis
invariant-loop-axis l = (l.sums ≡ added_to l.p l.leaf l.share l.initial.sums l.axis) × (length l.sums ≡ length l.initial.sums)
