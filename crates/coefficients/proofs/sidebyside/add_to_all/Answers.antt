use Rattle.std.proofs.Common.{arith, map, ◌∙◌}
use Rattle.lists.specs.Xor.{◌⊕◌}
use Rattle.lists.specs.Sum.Laws.{xor_list-none}
use Rattle.packed.specs.Maps.{added_more, added-all}
use Rattle.coefficients.specs.Spread.{spread}
use Rattle.coefficients.proofs.sidebyside.add_to_all.Goals as goal

pub loop-j-init : goal.loop-j-init
loop-j-init c = xor_list-none _ (map spread c.args.y.now)

pub loop-j-preserved : goal.loop-j-preserved
unfolding ◌⊕◌
loop-j-preserved c = added_more spread c.args.words.now c.args.y.now _ _ _ (omega arith) (omega arith) c.loop-j.invariant c.spread.ensures

pub returns : goal.returns
returns c = c.loop-j.invariant ∙ added-all spread c.args.words.now c.args.y.now c.loop-j.j (omega arith)
