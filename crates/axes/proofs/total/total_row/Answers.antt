-- The sum of all leaves and its block lie within those of all (`sum_fits`); α̂ and β̂ are those of it, and the hidden leaf's.
use Rattle.std.proofs.Common.{List, ap, ap₂, arith, length, mul-le-mul_right, true, ℕ, ◌*◌, ◌+◌, ◌∙◌, ◌≤◌}
use Rattle.lists.specs.Part.{part}
use Rattle.lists.specs.Part.Laws.{lent-part}
use Rattle.layout.specs.Layout.{others}
use Rattle.layout.specs.Layout.Laws.{others-pos}
use Rattle.axes.specs.Row.{row_by, with_hidden, front_by, hats_by}
use Rattle.axes.proofs.Laws.Asked.{sum_fits}
use Rattle.axes.proofs.total.total_row.Goals as goal
use Rattle.axes.proofs.total.total_row.Goals.{After-put_front, After-row_length-room}

inside : (c : After-row_length-room) → (c.args.p.axes * c.share_length-size.result + c.share_length-size.result ≤ length c.args.sums.now)
    × (c.args.p.axes * c.row_length-room.result + c.row_length-room.result ≤ length c.args.blocks.now)
inside c =
    let d = c.args.p.axes in let e : 1 * d ≤ others c.args.p * d = mul-le-mul_right d (others-pos c.args.p) in
    let f = sum_fits _ _ _ _ c.requires.of d (omega arith) in
    (omega (arith, f.0, ap (◌*◌ d) c.share_length-size.ensures, c.share_length-size.ensures), omega (arith, f.1, ap (◌*◌ d) c.row_length-room.ensures, c.row_length-room.ensures))

pub slice_bounds-put_front-end : goal.slice_bounds-put_front-end
slice_bounds-put_front-end c = omega (arith, (inside (goal.at.slice_bounds-put_front-end c).After-row_length-room).1)

pub slice_bounds-put_row-end : goal.slice_bounds-put_row-end
slice_bounds-put_row-end c = omega (arith, (inside (goal.at.slice_bounds-put_row-end c).After-row_length-room).0)

pub returns : goal.returns
unfolding hats_by
returns c =
    let a = c.args in
    let share = lent-part a.sums.now _ _ ∙ ap (λ (n : ℕ). part a.sums.now (a.p.axes * n) n) c.share_length-size.ensures in
    let block = lent-part a.blocks.now _ _ ∙ ap (λ (n : ℕ). part a.blocks.now (a.p.axes * n) n) c.row_length-room.ensures in (
      c.add_hidden.ensures ∙ ap (with_hidden a.p a.hidden_leaf a.hidden_values.now) (c.put_front.ensures ∙ ap (front_by a.p) block),
      c.put_row.ensures ∙ ap₂ (λ (x z : List ℕ). row_by a.p true x z c.add_hidden.new.hats) share block,
    )
