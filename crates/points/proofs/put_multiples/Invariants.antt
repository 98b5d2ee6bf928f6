-- The loop's invariant: the first i entries of the table stand in out from place at on (`paste`); a turn writes entry i (`put_at-more`).
use Rattle.std.proofs.Common.{◌≡◌}
use lib.Seq.{paste}
use Rattle.points.proofs.put_multiples.Given as goal

abbrev pub invariant-loop-i : goal.invariant-loop-i
invariant-loop-i l = l.out ≡ paste l.initial.out l.at l.entry-items l.i
