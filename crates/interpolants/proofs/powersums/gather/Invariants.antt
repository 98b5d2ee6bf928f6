-- The loop's invariant: the first q bytes of the class are added.
use Rattle.std.proofs.Common.{length, ◌*◌, ◌+◌, ◌-◌, ◌≡◌}
use Rattle.interpolants.specs.Sums.{total}
use Rattle.interpolants.specs.Added.{Added}
use Rattle.interpolants.specs.Classes.{scaled_by, progression}
use Rattle.interpolants.proofs.powersums.gather.Given as goal

abbrev pub invariant-loop-q : goal.invariant-loop-q
invariant-loop-q l = (length l.c ≡ length l.initial.c)
    × Added 17 (λ k. total (λ q. progression (scaled_by l.rows l.n l.scales (l.class + 15 * q)) 0 (l.class + 15 * q) (16 - k)) l.q) l.initial.c l.c
