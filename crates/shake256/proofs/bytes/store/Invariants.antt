-- The loop's invariant: the first j bytes of the lane stand at the front of the slice.
use Rattle.std.proofs.Common.{drop, take, ◌≡◌, ◌++◌}
use Rattle.shake256.proofs.bytes.store.Given as goal

abbrev pub invariant-loop-j : goal.invariant-loop-j
invariant-loop-j l = l.out ≡ take l.j l.bytes ++ drop l.j l.initial.out
