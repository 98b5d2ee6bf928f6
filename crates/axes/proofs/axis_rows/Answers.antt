-- The rows have room for the blocks of all sums at their front; from them come the rows of the definition (`rows_made`).
use Rattle.std.proofs.Common.{List, ap, arith, length, length-take-le, take_at, ℕ, ◌∙◌, ◌≤◌}
use Rattle.layout.specs.Layout.Bounds.{blocks-fit}
use Rattle.exchange.specs.Values.{key_of}
use Rattle.points.specs.Written.{front_length}
use Rattle.axes.specs.Axes.{rows_by}
use Rattle.axes.proofs.Laws.Axes.{rows_made}
use Rattle.axes.proofs.axis_rows.Goals as goal
use Rattle.axes.proofs.axis_rows.Goals.{After-blocks_length-b}

room : (c : After-blocks_length-b) → c.blocks_length-b.result ≤ length c.args.rows.now
room c = omega (arith, c.blocks_length-b.ensures, blocks-fit _ c.requires.within, c.requires.sized_rows)

pub slice_bounds-evaluate-end : goal.slice_bounds-evaluate-end
slice_bounds-evaluate-end c = room (goal.at.slice_bounds-evaluate-end c).After-blocks_length-b

pub slice_bounds-evaluate-end-2 : goal.slice_bounds-evaluate-end-2
slice_bounds-evaluate-end-2 c = front_length _ _ (room (goal.at.slice_bounds-evaluate-end-2 c).After-blocks_length-b)

pub evaluate-made-requires : goal.evaluate-made-requires
evaluate-made-requires c = let f = c.requires in
    record {
      within = f.within;
      sized-parts = f.sized-parts;
      sized-m2 = f.sized-m2;
      sized-matrix = f.sized-matrix;
      sized-y = f.sized-y;
      sized-blocks = length-take-le _ _ (room (goal.at.evaluate-made-requires c).After-blocks_length-b) ∙ c.blocks_length-b.ensures;
    }

pub returns : goal.returns
returns c = let a = c.args in let blocks = c.evaluate-made.new.blocks in
    let long = c.evaluate-made.auto.blocks ∙ length-take-le _ _ (room (goal.at.returns c).After-blocks_length-b) ∙ c.blocks_length-b.ensures in (
      c.put_all.ensures
          ∙ ap (λ (b : List ℕ). rows_by a.p a.sums.now b a.hidden_leaf a.hidden_values.now) (take_at blocks _ _ long)
          ∙ rows_made a.p (key_of a.matrix.now a.y.now) a.message2.now a.sums.now a.hidden_leaf a.hidden_values.now blocks c.evaluate-made.ensures.0
          c.requires.sized-hidden (λ i. omega (arith, c.type_inv.hidden_values i)),
      c.evaluate-made.ensures.1,
    )
