-- What `draw_share` left in the front of `share` is added.
use Rattle.std.proofs.Common.{ap, arith, sym, take, ◌∙◌}
use Rattle.lists.specs.Sum.{xor_list}
use Rattle.parties.specs.Drawn.Laws.{Front, drawn-front, take-drawn}
use Rattle.parties.proofs.total.add_drawn.Goals as goal
use Rattle.parties.proofs.total.add_drawn.Goals.{After-draw_share-size}

front : (c : After-draw_share-size) → Front c.args.p c.draw_share-size.result c.draw_share-size.new.out
front c =
    drawn-front c.args.p c.args.leaf c.draw_share-size.result c.draw_share-size.new.out c.draw_share-size.ensures.length
    (omega (arith, c.requires.draw.room, c.draw_share-size.auto.out))

pub slice_bounds-xor_into-end : goal.slice_bounds-xor_into-end
slice_bounds-xor_into-end c = (front (goal.at.slice_bounds-xor_into-end c).After-draw_share-size).there

pub slice_bounds-xor_into-end-2 : goal.slice_bounds-xor_into-end-2
slice_bounds-xor_into-end-2 c = sym (front (goal.at.slice_bounds-xor_into-end-2 c).After-draw_share-size).long

pub xor_into-requires : goal.xor_into-requires
xor_into-requires c =
    omega (arith, (front (goal.at.xor_into-requires c).After-draw_share-size).short, c.requires.sum)

pub returns : goal.returns
returns c =
    λ prefix b. let args = c.args in
    let left = c.draw_share-size.ensures.share prefix b in (
      left,
      c.xor_into.ensures ∙ ap (xor_list args.sum.now) (ap (take c.draw_share-size.result) left
          ∙ take-drawn args.p prefix args.states.now args.leaf c.draw_share-size.result args.share.now c.draw_share-size.ensures.length),
    )
