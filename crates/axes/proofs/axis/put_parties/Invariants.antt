-- The loop's invariant: the rows of the first c parties are written (`blocks-turn`).
use Rattle.points.specs.Blocks.{Blocks}
use Rattle.axes.specs.Axes.{party_row}
use Rattle.axes.proofs.axis.put_parties.Given as goal

abbrev pub invariant-loop-c : goal.invariant-loop-c
invariant-loop-c l = Blocks (party_row l.p l.sums l.blocks l.hats l.axis) l.room l.initial.rows l.rows l.c
