-- The party's sum and its block lie within those of all (`sum_fits`).
use Rattle.std.proofs.Common.{List, ap₂, arith, eqb, length, ℕ, ◌*◌, ◌+◌, ◌∙◌, ◌≤◌}
use Rattle.lists.specs.Part.{part}
use Rattle.lists.specs.Part.Laws.{lent-part}
use Rattle.layout.specs.Layout.Laws.{index-lt}
use Rattle.axes.specs.Row.{row_by}
use Rattle.axes.specs.Axes.{party_row}
use Rattle.axes.proofs.Laws.Asked.{sum_fits}
use Rattle.axes.proofs.axis.put_party.Goals as goal
use Rattle.axes.proofs.axis.put_party.Goals.{After-row_length-room}

inside : (c : After-row_length-room) → (c.sum_index-i.result * c.share_length-size.result + c.share_length-size.result ≤ length c.args.sums.now)
    × (c.sum_index-i.result * c.row_length-room.result + c.row_length-room.result ≤ length c.args.blocks.now)
inside c =
    let f = sum_fits _ _ _ _ c.requires.0 _ (index-lt c.args.p _ _ c.requires.1 c.requires.2) in
    let i = c.sum_index-i.ensures in let size = c.share_length-size.ensures in let room = c.row_length-room.ensures in
    (omega (arith, f.0, ap₂ ◌*◌ i size, size), omega (arith, f.1, ap₂ ◌*◌ i room, room))

pub overflow_mul-a : goal.overflow_mul-a
overflow_mul-a c = omega (arith, (inside (goal.at.overflow_mul-a c).After-row_length-room).0)

pub overflow_add-e : goal.overflow_add-e
overflow_add-e c = omega (arith, (inside (goal.at.overflow_add-e c).After-row_length-room).0)

pub overflow_mul-b : goal.overflow_mul-b
overflow_mul-b c = omega (arith, (inside (goal.at.overflow_mul-b c).After-row_length-room).1)

pub overflow_add-f : goal.overflow_add-f
overflow_add-f c = omega (arith, (inside (goal.at.overflow_add-f c).After-row_length-room).1)

pub slice_bounds-put_row-end : goal.slice_bounds-put_row-end
slice_bounds-put_row-end c = omega (arith, (inside (goal.at.slice_bounds-put_row-end c).After-row_length-room).0)

pub slice_bounds-put_row-end-2 : goal.slice_bounds-put_row-end-2
slice_bounds-put_row-end-2 c = omega (arith, (inside (goal.at.slice_bounds-put_row-end-2 c).After-row_length-room).1)

pub returns : goal.returns
unfolding party_row
returns c = let a = c.args in c.put_row.ensures
    ∙ ap₂ (λ (x y : List ℕ). row_by a.p (eqb a.party 0) x y a.hats.now)
    (lent-part a.sums.now _ _ ∙ ap₂ (λ (i n : ℕ). part a.sums.now (i * n) n) c.sum_index-i.ensures c.share_length-size.ensures)
    (lent-part a.blocks.now _ _ ∙ ap₂ (λ (i n : ℕ). part a.blocks.now (i * n) n) c.sum_index-i.ensures c.row_length-room.ensures)
