-- The loop's invariant: the first j entries are added; a turn adds entry j in its place (`added_more`).
use Rattle.std.proofs.Common.{map, take, ◌≡◌}
use Rattle.lists.specs.Sum.{xor_list}
use Rattle.packed.specs.Share.{placed}
use Rattle.packed.proofs.add_share.Given as goal

abbrev pub invariant-loop-j : goal.invariant-loop-j
invariant-loop-j l = l.words ≡ xor_list l.initial.words (take l.j (map (placed l.i) l.x))
