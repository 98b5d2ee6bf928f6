-- The loop's invariant: n plus the weight of what stands from i on is the weight (`weight-zero`, `weight-other`).
use Rattle.std.proofs.Common.{drop, ◌+◌, ◌≡◌}
use Rattle.relation.specs.Key.{weight_of}
use Rattle.key.proofs.weight.Given as goal

abbrev pub invariant-loop-b : goal.invariant-loop-b
invariant-loop-b l = l.n + weight_of (drop l.b-index l.x) ≡ weight_of l.x
