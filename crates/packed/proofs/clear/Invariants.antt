-- The loop's invariant: the first entries are zero.
use Rattle.std.proofs.Common.{drop, replicate, ◌++◌, ◌≡◌}
use Rattle.packed.proofs.clear.Given as goal

abbrev pub invariant-loop-w : goal.invariant-loop-w
invariant-loop-w l = l.words ≡ replicate l.w-index 0 ++ drop l.w-index l.words
