-- The hidden leaf changes nothing; of any other, what `draw_share` left in the front of `share` is added.
use Rattle.std.proofs.Common.{Bool, List, ap, arith, cond, eq-eqb, ne_eqb, sym, take, ℕ, ◌∙◌}
use Rattle.parties.specs.Sums.{added_leaf}
use Rattle.parties.specs.Drawn.{drawn_share}
use Rattle.parties.specs.Drawn.Laws.{Front, drawn-front, take-drawn}
use Rattle.parties.proofs.add_disclosed.Goals as goal
use Rattle.parties.proofs.add_disclosed.Goals.{After-draw_share-size}

front : (c : After-draw_share-size) → Front c.args.p c.draw_share-size.result c.draw_share-size.new.out
front c =
    drawn-front c.args.p c.args.leaf c.draw_share-size.result c.draw_share-size.new.out c.draw_share-size.ensures.length
    (omega (arith, c.requires.draw.room, c.draw_share-size.auto.out))

pub returns-then-leaf-hidden_leaf : goal.returns-then-leaf-hidden_leaf
returns-then-leaf-hidden_leaf c =
    λ prefix b. let args = c.args in let d = args.sums.now in
    sym (ap (λ (t : Bool). cond t d (added_leaf args.p args.leaf (drawn_share args.p prefix args.states.now args.leaf) d))
    (eq-eqb args.leaf args.hidden_leaf c.if-leaf-hidden_leaf.true))

pub slice_bounds-add_leaf-end : goal.slice_bounds-add_leaf-end
slice_bounds-add_leaf-end c = (front (goal.at.slice_bounds-add_leaf-end c).After-draw_share-size).there

pub slice_bounds-add_leaf-end-2 : goal.slice_bounds-add_leaf-end-2
slice_bounds-add_leaf-end-2 c = sym (front (goal.at.slice_bounds-add_leaf-end-2 c).After-draw_share-size).long

pub add_leaf-requires : goal.add_leaf-requires
add_leaf-requires c = record { within = c.requires.draw.within; share = (front (goal.at.add_leaf-requires c).After-draw_share-size).short; room = c.requires.room }

pub returns : goal.returns
returns c =
    λ prefix b. let args = c.args in
    let d = args.sums.now in let s = drawn_share args.p prefix args.states.now args.leaf in c.add_leaf.ensures
    ∙ ap (λ (l : List ℕ). added_leaf args.p args.leaf l d) (ap (take c.draw_share-size.result) (c.draw_share-size.ensures.share prefix b)
    ∙ take-drawn args.p prefix args.states.now args.leaf c.draw_share-size.result args.share.now c.draw_share-size.ensures.length)
    ∙ sym (ap (λ (t : Bool). cond t d (added_leaf args.p args.leaf s d)) (ne_eqb args.leaf args.hidden_leaf c.if-leaf-hidden_leaf.false))
