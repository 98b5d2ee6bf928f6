-- α and β go to the front of the row, v behind them (`halves-made`).
use Rattle.std.proofs.Common.{ap₂, arith, length, length-take-le, take, ◌++◌, ◌∙◌, ◌≡◌}
use Rattle.points.specs.Written.{halves-made}
use Rattle.axes.specs.Row.{row_by}
use Rattle.axes.proofs.row.put_row.Goals as goal
use Rattle.axes.proofs.row.put_row.Goals.{After-values_length-a}

front : (c : After-values_length-a) → let a = c.values_length-a.result in length (take a c.args.out.now) ≡ a
front c =
    length-take-le c.values_length-a.result c.args.out.now (omega (arith, c.requires.1, c.values_length-a.ensures))

pub returns : goal.returns
unfolding row_by
returns c = halves-made c.args.out.now c.put_front.new.out c.values_length-a.result (c.put_front.auto.out ∙ front (goal.at.returns c).After-values_length-a)
    c.put_v.new.out (omega (arith, c.requires.1, c.values_length-a.ensures)) ∙ ap₂ ◌++◌ c.put_front.ensures c.put_v.ensures
