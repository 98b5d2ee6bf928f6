use Rattle.std.proofs.Common.{ap, arith, length, refl, sym, ◌*◌, ◌+◌, ◌<◌, ◌∙◌, ◌≡◌, ◌≤◌}
use Rattle.points.specs.Blocks.{within-blocks, length-block, blocks-none, blocks-turn, blocks_end}
use Rattle.axes.proofs.rows.put_rows.Goals as goal
use Rattle.axes.proofs.rows.put_rows.Goals.{At-loop-j}

whole : (c : At-loop-j) → length c.args.rows.now ≡ c.args.p.axes * c.axis_length-width.result
whole c = c.requires.2 ∙ sym (ap (◌*◌ c.args.p.axes) c.axis_length-width.ensures)

-- row j lies within the slice
inside : (c : At-loop-j) → c.loop-j.j < c.args.p.axes → c.loop-j.j * c.axis_length-width.result + c.axis_length-width.result ≤ length c.loop-j.rows
inside c h = within-blocks c.loop-j.j c.args.p.axes _ _ _ h refl (c.loop-j.auto.rows ∙ whole c)

pub loop-j-init : goal.loop-j-init
loop-j-init c = blocks-none _ _ _

pub loop-j-preserved : goal.loop-j-preserved
loop-j-preserved c = let h = c.loop-j-test.true in let at = (goal.at.loop-j-preserved c).At-loop-j in
    let eu = c.put_axis.auto.row ∙ length-block _ _ c.loop-j.rows (inside at h) in
    blocks-turn _ _ c.args.p.axes c.args.rows.now (whole at) c.loop-j.rows _ c.loop-j.j _ h refl eu c.put_axis.ensures c.loop-j.invariant

pub returns : goal.returns
returns c = blocks_end _ _ c.args.p.axes c.args.rows.now (whole (goal.at.returns c).At-loop-j) c.loop-j.rows c.loop-j.j (omega arith) c.loop-j.invariant
