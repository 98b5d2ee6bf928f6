use Rattle.std.proofs.Common.{ap, ap₂, arith, length, sym, ◌*◌, ◌+◌, ◌<◌, ◌∙◌, ◌≡◌, ◌≤◌, refl}
use Rattle.exchange.specs.Sequences.{joined}
use Rattle.points.specs.Blocks.{within-blocks, length-block, blocks-none, blocks-turn, blocks_end}
use Rattle.axes.specs.Axes.{party_row}
use Rattle.axes.proofs.axis.put_parties.Goals as goal
use Rattle.axes.proofs.axis.put_parties.Goals.{At-loop-c, In-loop-c}

whole : (c : At-loop-c) → length c.args.rows.now ≡ c.others-n.result * c.row_length-room.result
whole c = c.requires.2 ∙ sym (ap₂ ◌*◌ c.others-n.ensures c.row_length-room.ensures)

-- the row of party c lies within the slice
inside : (c : At-loop-c) → c.loop-c.c < c.others-n.result → c.loop-c.c * c.row_length-room.result + c.row_length-room.result ≤ length c.loop-c.rows
inside c h = within-blocks c.loop-c.c c.others-n.result _ _ _ h refl (c.loop-c.auto.rows ∙ whole c)

pub loop-c-init : goal.loop-c-init
loop-c-init c = blocks-none _ _ _

pub loop-c-preserved : goal.loop-c-preserved
loop-c-preserved c = let a = c.args in let h = c.loop-c-test.true in
    let at = (goal.at.loop-c-preserved c).At-loop-c in
    let eu = c.put_party.auto.out ∙ length-block _ _ c.loop-c.rows (inside at h) in
    blocks-turn (party_row a.p a.sums.now a.blocks.now a.hats.now a.axis) _ c.others-n.result a.rows.now (whole at)
    c.loop-c.rows _ c.loop-c.c _ h refl eu c.put_party.ensures c.loop-c.invariant

pub returns : goal.returns
returns c = let a = c.args in
    let f = party_row a.p a.sums.now a.blocks.now a.hats.now a.axis in
    blocks_end f _ c.others-n.result a.rows.now (whole (goal.at.returns c).At-loop-c) c.loop-c.rows c.loop-c.c (omega arith) c.loop-c.invariant
    ∙ ap (joined f) c.others-n.ensures
