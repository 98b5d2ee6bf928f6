-- The loop's invariant: the first j entries are added; a turn adds entry j to all bytes of word j (`added_more`).
use Rattle.std.proofs.Common.{map, take, ◌≡◌}
use Rattle.lists.specs.Sum.{xor_list}
use Rattle.coefficients.specs.Spread.{spread}
use Rattle.coefficients.proofs.sidebyside.add_to_all.Given as goal

abbrev pub invariant-loop-j : goal.invariant-loop-j
invariant-loop-j l = l.words ≡ xor_list l.initial.words (take l.j (map spread l.y))
