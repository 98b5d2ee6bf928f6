use Rattle.std.proofs.Common.{ap, arith, length, ◌*◌, ◌∙◌}
use Rattle.axes.proofs.Laws.Streamed.{streamed-none, streamed-turn, streamed-end}
use Rattle.axes.proofs.digests.response_digest.Goals as goal

pub loop-j-init : goal.loop-j-init
loop-j-init c = streamed-none _ _ _ _ c.begin-all.ensures

pub loop-j-preserved : goal.loop-j-preserved
loop-j-preserved c = let a = c.args in let w = c.axis_length-width.ensures in
    streamed-turn a.p a.prefix.now a.rows.now _ _ c.loop-j.j _ _ (ap (◌*◌ c.loop-j.j) w) w c.loop-j.invariant (c.add_axis-all.ensures a.prefix.now c.begin-axes.ensures)

pub returns : goal.returns
returns c = let a = c.args in
    c.digest.ensures ∙ streamed-end a.p a.prefix.now a.rows.now _ c.loop-j.j (length a.out.now) (omega arith) c.loop-j.invariant
