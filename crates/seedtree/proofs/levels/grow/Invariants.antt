-- The loop's invariant: the buffer is `growing c v seeds₀ j`. A turn writes the children of one seed more (`growing-more`).
use Rattle.std.proofs.Common.{List, length, ℕ, ◌≡◌}
use Rattle.shake256.specs.Fips.{SHAKE256}
use Rattle.strings.specs.Digest.{begun}
use Rattle.seedtree.specs.Levels.Growing.{growing}
use Rattle.seedtree.proofs.levels.grow.Given as goal

abbrev pub invariant-loop-j : goal.invariant-loop-j
invariant-loop-j l =
    (length l.seeds ≡ length l.initial.seeds) × ((prefix : List ℕ) → l.nodes ≡ begun 1 prefix → l.seeds ≡ growing SHAKE256 prefix l.c l.v l.initial.seeds l.j)
