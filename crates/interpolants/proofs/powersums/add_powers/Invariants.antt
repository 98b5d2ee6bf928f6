-- The loop's invariant: the first j products are added, 03 to the k is the next factor, and p the exponent of the next entry; a turn adds to one entry.
use Rattle.std.proofs.Common.{length, ℕ, ◌*◌, ◌+◌, ◌<◌, ◌≡◌}
use Rattle.bytefield.specs.Powers.{power}
use Rattle.packed.specs.Table.{multiples}
use Rattle.interpolants.specs.Added.{Added, spaced}
use Rattle.interpolants.specs.Classes.{progression}
use Rattle.interpolants.proofs.powersums.add_powers.Given as goal

abbrev pub invariant-loop-j : goal.invariant-loop-j
invariant-loop-j l = (l.k < 255) × (power l.k ≡ power (l.s + l.e * l.j)) × (length l.acc ≡ length l.initial.acc)
    × ((v : ℕ) → l.table ≡ multiples v → Added (length l.initial.acc) (spaced (length l.initial.acc) l.o l.step (progression v l.s l.e) l.j) l.initial.acc l.acc)
