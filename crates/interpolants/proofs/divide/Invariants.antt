-- The loop's invariant, downwards: the places from i on are the quotient, as far as it has come, and those before i are what is left (`divided-turn`).
use Rattle.std.proofs.Common.{length, ◌≤◌}
use Rattle.interpolants.specs.Division.{Reduced}
use Rattle.interpolants.proofs.divide.Given as goal

abbrev pub invariant-loop-i : goal.invariant-loop-i
invariant-loop-i l = (length l.g ≤ l.i) × Reduced l.g l.i l.t l.initial.t
