-- The loop's invariant: the rows of the first j axes are written (`blocks-turn`).
use Rattle.points.specs.Blocks.{Blocks}
use Rattle.axes.specs.Axes.{formula_rows}
use Rattle.axes.proofs.rows.put_rows.Given as goal

abbrev pub invariant-loop-j : goal.invariant-loop-j
invariant-loop-j l = Blocks (formula_rows l.p l.sums l.blocks l.hats l.total) l.width l.initial.rows l.rows l.j
