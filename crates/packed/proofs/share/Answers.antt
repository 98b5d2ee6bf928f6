use Rattle.std.proofs.Common.{arith, sym, ◌∙◌}
use Rattle.lists.specs.Blend.Laws.{blend-none, blend-up, blend-all}
use Rattle.packed.specs.Share.Laws.{length-share, get_d-share}
use Rattle.packed.proofs.share.Goals as goal

pub loop-j-init : goal.loop-j-init
loop-j-init c = blend-none _ _

pub loop-j-preserved : goal.loop-j-preserved
loop-j-preserved c =
    let a = c.args in
    let l = length-share a.i a.words.now in
    blend-up _ _ _ _ _ (omega arith) (omega arith) c.loop-j.invariant (c.byte_at.ensures ∙ sym (get_d-share a.i a.words.now c.loop-j.j))

pub returns : goal.returns
returns c =
    let a = c.args in
    let l = length-share a.i a.words.now in
    c.loop-j.invariant ∙ blend-all _ _ _ (omega arith) (omega arith)
