use Rattle.std.proofs.Common.{arith, map, ◌∙◌}
use Rattle.lists.specs.Xor.{◌⊕◌}
use Rattle.lists.specs.Sum.Laws.{xor_list-none}
use Rattle.packed.specs.Word.{scaled}
use Rattle.packed.specs.Maps.{added_more, added-all}
use Rattle.packed.proofs.add_multiples.Goals as goal

pub loop-j-init : goal.loop-j-init
loop-j-init c = λ v e. xor_list-none _ (map (scaled v) c.args.by.now)

pub loop-j-preserved : goal.loop-j-preserved
unfolding ◌⊕◌
loop-j-preserved c =
    let a = c.args in
    λ v e. added_more (scaled v) a.acc.now a.by.now _ _ _ (omega arith) (omega arith) (c.loop-j.invariant v e) (c.times.ensures.word v e)

pub returns : goal.returns
returns c =
    λ v e. c.loop-j.invariant v e ∙ added-all (scaled v) _ c.args.by.now c.loop-j.j (omega arith)
