use Rattle.std.proofs.Common.{arith, map, ◌∙◌}
use Rattle.lists.specs.Xor.{◌⊕◌}
use Rattle.lists.specs.Sum.Laws.{xor_list-none}
use Rattle.packed.specs.Share.{placed}
use Rattle.packed.specs.Maps.{added_more, added-all}
use Rattle.packed.proofs.add_share.Goals as goal

pub loop-j-init : goal.loop-j-init
loop-j-init c = xor_list-none _ (map (placed c.args.i) c.args.x.now)

pub loop-j-preserved : goal.loop-j-preserved
unfolding ◌⊕◌
loop-j-preserved c =
    let a = c.args in
    added_more (placed a.i) a.words.now a.x.now _ _ _ (omega arith) (omega arith) c.loop-j.invariant c.placed.ensures

pub returns : goal.returns
returns c =
    c.loop-j.invariant ∙ added-all (placed c.args.i) _ c.args.x.now c.loop-j.j (omega arith)
