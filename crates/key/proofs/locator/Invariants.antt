-- The loop's invariant is `Located`: from place at on stands a product that the factors still to come complete to Q.
use Rattle.std.proofs.Common.{length, ◌<◌, ◌≡◌}
use Rattle.relation.specs.Key.{locator_of}
use Rattle.key.specs.Loops.Locator.{Located}
use Rattle.key.proofs.locator.Given as goal

abbrev pub invariant-loop-i : goal.invariant-loop-i
invariant-loop-i l = (l.at < length l.out) × Located l.x l.left l.i l.at l.out (locator_of l.w l.x) × (length l.out ≡ length l.initial.out)
