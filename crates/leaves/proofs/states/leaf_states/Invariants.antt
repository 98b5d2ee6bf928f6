-- The loop's invariant: the states of the first i leaves are written to the front of `states`. A turn writes one more (`written-more`).
use Rattle.std.proofs.Common.{length, ◌≡◌}
use Rattle.leaves.specs.States.Written.{written}
use Rattle.leaves.proofs.states.leaf_states.Given as goal

abbrev pub invariant-loop-i : goal.invariant-loop-i
invariant-loop-i l = (length l.states ≡ length l.initial.states) × (l.states ≡ written l.prefix l.initial.states l.hidden_leaf l.n l.i)
