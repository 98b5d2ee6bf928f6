-- The loop's invariant: acc plus the product of what stands from i on is the product of the row with x (`dot-turn`).
use Rattle.std.proofs.Common.{drop, ◌≡◌}
use Rattle.lists.specs.Xor.{◌⊕◌}
use Rattle.relation.specs.Key.{dot}
use Rattle.key.proofs.row.Given as goal

abbrev pub invariant-loop-i : goal.invariant-loop-i
invariant-loop-i l = l.acc ⊕ dot (drop l.i l.h) (drop l.i l.x) ≡ dot l.h l.x
