-- The loop's invariant: the sum is the length of the parts before run e, and each is short.
use Rattle.std.proofs.Common.{◌*◌, ◌≡◌, ◌≤◌}
use Rattle.layout.specs.Runs.{message5_place}
use Rattle.layout.specs.Maxima.{longest_message5}
use Rattle.layout.proofs.runs.messages5_length.Given as goal

abbrev pub invariant-loop-leaf : goal.invariant-loop-leaf
invariant-loop-leaf l = (l.sum ≡ message5_place l.p l.leaves l.leaf-index) × (l.sum ≤ l.leaf-index * longest_message5)
