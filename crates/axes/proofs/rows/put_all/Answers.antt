-- The array has room for the blocks of nine sums. It becomes the front of the rows, from which they are made.
use Rattle.std.proofs.Common.{arith, length, length-take-le, sym, ◌∙◌, ◌≡◌, ◌≤◌}
use Rattle.layout.specs.Layout.Bounds.{blocks-fit, blocks-most}
use Rattle.layout.specs.Maxima.{most_blocks}
use Rattle.points.specs.Written.{front_length}
use Rattle.axes.proofs.Laws.Rows.{front-there, front-sized}
use Rattle.axes.proofs.rows.put_all.Goals as goal
use Rattle.axes.proofs.rows.put_all.Goals.{After-blocks_length-b, After-copy}

room : (c : After-blocks_length-b) → c.blocks_length-b.result ≤ most_blocks
room c = omega (arith, c.blocks_length-b.ensures, blocks-most _ c.requires.within)

inside : (c : After-blocks_length-b) → c.blocks_length-b.result ≤ length c.args.rows.now
inside c = omega (arith, c.blocks_length-b.ensures, blocks-fit _ c.requires.within, c.requires.sized_rows)

long : (c : After-copy) → c.blocks_length-b.result ≤ most_blocks → length c.copy.new.out ≡ c.blocks_length-b.result
long c h = c.copy.auto.out ∙ length-take-le _ _ h

pub slice_bounds-blocks-end : goal.slice_bounds-blocks-end
slice_bounds-blocks-end c = room (goal.at.slice_bounds-blocks-end c).After-blocks_length-b

pub slice_bounds-copy-end : goal.slice_bounds-copy-end
slice_bounds-copy-end c = front_length _ _ (room (goal.at.slice_bounds-copy-end c).After-blocks_length-b)

pub slice_bounds-copy-end-2 : goal.slice_bounds-copy-end-2
slice_bounds-copy-end-2 c = inside (goal.at.slice_bounds-copy-end-2 c).After-blocks_length-b

pub slice_bounds-copy-end-3 : goal.slice_bounds-copy-end-3
slice_bounds-copy-end-3 c = front_length _ _ (inside (goal.at.slice_bounds-copy-end-3 c).After-blocks_length-b)

pub copy-requires : goal.copy-requires
copy-requires c = length-take-le _ _ (inside (goal.at.copy-requires c).After-blocks_length-b) ∙ front_length _ _ (room (goal.at.copy-requires c).After-blocks_length-b)

pub slice_bounds-blocks-end-2 : goal.slice_bounds-blocks-end-2
slice_bounds-blocks-end-2 c = let at = goal.at.slice_bounds-blocks-end-2 c in front-there c.copy.new.out _ _ (long at.After-copy (room at.After-blocks_length-b))

pub slice_bounds-put_from-end : goal.slice_bounds-put_from-end
slice_bounds-put_from-end c = let at = goal.at.slice_bounds-put_from-end c in sym (front-sized c.copy.new.out _ _ (long at.After-copy (room at.After-blocks_length-b)))

pub put_from-requires : goal.put_from-requires
put_from-requires c = let f = c.requires in let at = goal.at.put_from-requires c in
    (f, front-sized c.copy.new.out _ _ (long at.After-copy (room at.After-blocks_length-b)) ∙ c.blocks_length-b.ensures)
