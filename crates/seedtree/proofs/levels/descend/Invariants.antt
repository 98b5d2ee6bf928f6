-- The loop's invariant: the buffer is `reached v seeds₀ i`. A turn grows it by a level (`reached-more`).
use Rattle.std.proofs.Common.{List, length, ℕ, ◌≡◌}
use Rattle.shake256.specs.Fips.{SHAKE256}
use Rattle.strings.specs.Digest.{begun}
use Rattle.seedtree.specs.Levels.Reached.{reached}
use Rattle.seedtree.proofs.levels.descend.Given as goal

abbrev pub invariant-loop-i : goal.invariant-loop-i
invariant-loop-i l =
    (length l.seeds ≡ length l.initial.seeds) × ((prefix : List ℕ) → l.nodes ≡ begun 1 prefix → l.seeds ≡ reached SHAKE256 prefix l.v l.initial.seeds l.i)
