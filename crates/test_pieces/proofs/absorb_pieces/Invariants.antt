-- The loop's invariant: the sponge has absorbed the first i bytes. A turn absorbs the next part (`absorbed-part`).
use Rattle.std.proofs.Common.{length, take, ◌≡◌, ◌≤◌}
use Rattle.shake256.specs.Stream.{absorbed}
use Rattle.test_pieces.proofs.absorb_pieces.Given as goal

abbrev pub invariant-loop-cut : goal.invariant-loop-cut
invariant-loop-cut l = (l.i ≤ length l.message) × (l.t ≡ absorbed l.initial.t (take l.i l.message))
