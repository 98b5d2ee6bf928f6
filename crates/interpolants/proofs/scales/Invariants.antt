-- The loop's invariant: the first i scales are written, f is the last point that has one, the scales of the points above f complete them (`scales-turn`),
-- and the complement stands behind.
use Rattle.std.proofs.Common.{drop, length, ◌≡◌}
use Rattle.interpolants.specs.Complement.{complement_of}
use Rattle.interpolants.proofs.Laws.Loops.{Weighted}
use Rattle.interpolants.proofs.scales.Given as goal

abbrev pub invariant-loop-i : goal.invariant-loop-i
invariant-loop-i l = Weighted (complement_of l.m) l.m l.i l.i l.out × (length l.out ≡ length l.initial.out) × (drop l.m l.out ≡ complement_of l.m)
