-- The loop's invariant is `Gathered`: what stands before place at, and the elements still to come that count, are the total.
use Rattle.std.proofs.Common.{length, ◌≡◌}
use Rattle.relation.specs.Key.{positions}
use Rattle.key.specs.Loops.Gather.{selected, Gathered}
use Rattle.key.proofs.gather.Given as goal

abbrev pub invariant-loop-i : goal.invariant-loop-i
invariant-loop-i l = Gathered l.inside l.x l.s l.left l.i l.at l.out (selected l.inside (positions l.w l.x) l.s) × (length l.out ≡ length l.initial.out)
