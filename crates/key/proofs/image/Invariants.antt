-- The loop's invariant: the first i rows are written, and a is where row i starts (`rows-turn`).
use Rattle.std.proofs.Common.{length, ◌≡◌}
use Rattle.lists.specs.Blend.{blend}
use Rattle.relation.specs.Key.{rows}
use Rattle.key.proofs.image.Given as goal

abbrev pub invariant-loop-i : goal.invariant-loop-i
invariant-loop-i l = l.out ≡ blend l.i (rows (length l.initial.out) l.matrix l.x) l.initial.out
