-- The loop's invariant: the first bytes of the front are zero and the others as they were; a turn zeroes one more (`zeroed-more`).
use Rattle.std.proofs.Common.{◌≡◌}
use Rattle.lists.specs.Zeroed.{zeroed}
use Rattle.lists.proofs.zero_front.Given as goal

abbrev pub invariant-loop-x : goal.invariant-loop-x
invariant-loop-x l = l.x-items ≡ zeroed l.x-index l.initial.x-items
