-- The loop's invariant: no point before point i is equal to point l.
use Rattle.std.proofs.Common.{not, true, ◌≡◌}
use Rattle.lists.specs.Checks.{all_true}
use Rattle.lists.specs.Equal.{eq_list}
use Rattle.exchange.specs.Sequences.{listed}
use Rattle.runs.specs.Points.{point_bytes}
use Rattle.challenge.proofs.new_point.Given as goal

abbrev pub invariant-loop-i : goal.invariant-loop-i
invariant-loop-i l = all_true (listed (λ i. not (eq_list (point_bytes l.message2 i) (point_bytes l.message2 l.l))) l.i) ≡ true
