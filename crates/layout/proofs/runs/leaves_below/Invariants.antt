-- The loop's invariant: all leaves are below n exactly when those from this run on are.
use Rattle.std.proofs.Common.{drop, ◌≡◌}
use Rattle.layout.specs.Runs.Laws.{all_below}
use Rattle.layout.proofs.runs.leaves_below.Given as goal

abbrev pub invariant-loop-leaf : goal.invariant-loop-leaf
invariant-loop-leaf l = all_below l.n l.leaves ≡ all_below l.n (drop l.leaf-index l.leaves)
