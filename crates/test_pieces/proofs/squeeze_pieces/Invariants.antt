-- The loop's invariant: the sponge has given i bytes, and they stand at the front of the slice. A turn fills the next part
-- (`squeezed-part`).
use Rattle.std.proofs.Common.{drop, length, ◌++◌, ◌≡◌, ◌≤◌}
use Rattle.shake256.specs.Stream.{after, squeezed}
use Rattle.test_pieces.proofs.squeeze_pieces.Given as goal

abbrev pub invariant-loop-span : goal.invariant-loop-span
invariant-loop-span l =
    (l.i ≤ length l.initial.output) × ((l.t ≡ after l.initial.t l.i) × (l.output ≡ squeezed l.initial.t l.i ++ drop l.i l.initial.output))
