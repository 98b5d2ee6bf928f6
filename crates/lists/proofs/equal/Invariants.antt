-- The loop's invariant: the two lists are as long as each other, and equal exactly when they are from index i on (`eq_list-more`).
use Rattle.std.proofs.Common.{drop, length, ◌≡◌}
use Rattle.lists.specs.Equal.{eq_list}
use Rattle.lists.proofs.equal.Given as goal

abbrev pub invariant-loop-i : goal.invariant-loop-i
invariant-loop-i l = (length l.a ≡ length l.b) × (eq_list l.a l.b ≡ eq_list (drop l.i l.a) (drop l.i l.b))
