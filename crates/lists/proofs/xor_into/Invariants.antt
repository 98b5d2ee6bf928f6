-- The loop's invariant: the first i bytes of t are added to s; a turn adds byte i (`xor_list-more`).
use Rattle.std.proofs.Common.{length, take, ◌≡◌}
use Rattle.lists.specs.Sum.{xor_list}
use Rattle.lists.proofs.xor_into.Given as goal

abbrev pub invariant-loop-i : goal.invariant-loop-i
invariant-loop-i l = (l.s ≡ xor_list l.initial.s (take l.i l.t)) × (length l.s ≡ length l.initial.s)
