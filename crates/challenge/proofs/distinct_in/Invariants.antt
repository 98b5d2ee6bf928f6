-- The loop's invariant: the points before point l differ pairwise.
use Rattle.std.proofs.Common.{true, ◌≡◌}
use Rattle.lists.specs.Checks.{all_true}
use Rattle.exchange.specs.Sequences.{listed}
use Rattle.runs.specs.Points.{new_point}
use Rattle.challenge.proofs.distinct_in.Given as goal

abbrev pub invariant-loop-l : goal.invariant-loop-l
invariant-loop-l l = all_true (listed (new_point l.message2) l.l) ≡ true
