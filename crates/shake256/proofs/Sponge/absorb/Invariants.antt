-- The loop's invariant: the rest absorbed, too, gives the whole absorbed.
use Rattle.std.proofs.Common.{length, ◌≡◌}
use Rattle.shake256.specs.Stream.{absorbed}
use Rattle.shake256.proofs.Sponge.absorb.Given as goal

abbrev pub invariant-loop-rest : goal.invariant-loop-rest
invariant-loop-rest l = absorbed l.t l.rest ≡ absorbed l.initial.t l.initial.rest

abbrev pub decreases-loop-rest : goal.decreases-loop-rest
decreases-loop-rest l = length l.rest
