use Rattle.std.proofs.Common.{arith, length, length-set, refl, ◌∙◌}
use Rattle.layout.specs.Layout.Laws.{leaves-pos, leaves-is}
use Rattle.unlock.specs.Expanded.{leaf_label}
use Rattle.unlock.specs.Expanded.Laws.{rests-none, rests-more, rests-all, leaves-are}
use Rattle.unlock.proofs.default_key.leaves.Goals as goal

pub loop-b-init : goal.loop-b-init
loop-b-init c = (rests-none _ _, refl)

pub remainder-requires : goal.remainder-requires
remainder-requires c = omega (arith, c.leaf_count-n.ensures, leaves-pos c.args.p)

pub loop-b-preserved : goal.loop-b-preserved
loop-b-preserved c = let l = c.loop-b in (
  rests-more c.leaf_count-n.result c.expand.new.out l.out l.b-index c.remainder.result (omega (arith, c)) l.invariant.0 c.remainder.ensures,
  simp length-set l.invariant.1,
)

pub returns : goal.returns
unfolding leaf_label
returns c = let l = c.loop-b in rests-all c.leaf_count-n.result c.expand.new.out l.b-index (omega arith) l.invariant.0
    ∙ leaves-are c.args.p (length c.args.out.now) (c.leaf_count-n.ensures ∙ leaves-is c.args.p) c.expand.ensures
