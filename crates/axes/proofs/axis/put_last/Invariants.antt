-- The loop's invariant: the rows of the first c parties are taken from the row `total`.
use Rattle.std.proofs.Common.{◌*◌, ◌≡◌}
use Rattle.lists.specs.Part.{part}
use Rattle.parties.specs.Sums.{less}
use Rattle.axes.proofs.axis.put_last.Given as goal

abbrev pub invariant-loop-c : goal.invariant-loop-c
invariant-loop-c l = l.last ≡ less l.total (λ c. part l.rows (c * l.room) l.room) l.c
