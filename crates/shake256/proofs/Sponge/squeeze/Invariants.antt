-- The loop's invariant: the sponge has given i bytes, and they stand at the front of the slice. A turn makes it ready and
-- gives some more (`after_more`, `written-more`).
use Rattle.std.proofs.Common.{drop, length, ◌≡◌, ◌-◌, ◌≤◌, ◌++◌}
use Rattle.shake256.specs.Stream.{squeezed, after}
use Rattle.shake256.proofs.Sponge.squeeze.Given as goal

abbrev pub invariant-loop-i : goal.invariant-loop-i
invariant-loop-i l = record {
  within : l.i ≤ length l.initial.out;
  given : l.t ≡ after l.initial.t l.i;
  written : l.out ≡ squeezed l.initial.t l.i ++ drop l.i l.initial.out;
}

abbrev pub decreases-loop-i : goal.decreases-loop-i
decreases-loop-i l = length l.initial.out - l.i
