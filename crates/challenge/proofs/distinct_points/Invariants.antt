-- The loop's invariant: the points of each run before run e differ pairwise.
use Rattle.std.proofs.Common.{true, ◌≡◌}
use Rattle.lists.specs.Checks.{all_true}
use Rattle.exchange.specs.Sequences.{listed}
use Rattle.runs.specs.Messages.{message2_at}
use Rattle.runs.specs.Points.{distinct_in}
use Rattle.challenge.proofs.distinct_points.Given as goal

abbrev pub invariant-loop-e : goal.invariant-loop-e
invariant-loop-e l = all_true (listed (λ e. distinct_in l.p.t (message2_at l.p l.message2 e)) l.e) ≡ true
