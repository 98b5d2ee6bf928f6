-- The loop's invariant: the first i bytes of s stand in out from index at on (`paste`); a turn writes byte i (`put_at-more`).
use Rattle.std.proofs.Common.{length, ◌≡◌}
use lib.Seq.{paste}
use Rattle.lists.proofs.put_at.Given as goal

abbrev pub invariant-loop-i : goal.invariant-loop-i
invariant-loop-i l = (l.out ≡ paste l.initial.out l.at l.s l.i) × (length l.out ≡ length l.initial.out)
