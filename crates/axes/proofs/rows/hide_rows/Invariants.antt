-- The loop's invariant: `hiding` is added on the first j axes (`blocks-turn`).
use Rattle.std.proofs.Common.{List, ℕ, ◌*◌}
use Rattle.lists.specs.Part.{part}
use Rattle.parameters.specs.declared.Parameters.{Parameters}
use Rattle.layout.specs.Layout.{axis_length}
use Rattle.points.specs.Blocks.{Blocks}
use Rattle.axes.specs.Row.{hidden_party, with_hiding}
use Rattle.axes.proofs.rows.hide_rows.Given as goal

abbrev pub row_at : Parameters → ℕ → List ℕ → List ℕ → ℕ → List ℕ
row_at p leaf hiding rows j = with_hiding p (hidden_party p leaf j) hiding (part rows (j * axis_length p) (axis_length p))

abbrev pub invariant-loop-j : goal.invariant-loop-j
invariant-loop-j l = Blocks (row_at l.p l.hidden_leaf l.hiding l.initial.rows) l.width l.initial.rows l.rows l.j
