use Rattle.std.proofs.Common.{ap, arith, get_or, refl, ◌-◌, ◌∙◌}
use lib.Seq.{drop-length}
use Rattle.algebra.specs.Polynomial.{eval}
use Rattle.lists.specs.Xor.{◌⊕◌}
use Rattle.interpolants.proofs.Laws.Loops.{horner-turn}
use Rattle.interpolants.proofs.value.Goals as goal

pub loop-i-init : goal.loop-i-init
unfolding eval
loop-i-init c = rw (drop-length c.args.g.now) refl

pub loop-i-preserved : goal.loop-i-preserved
loop-i-preserved c = let g = c.args.g.now in let i = c.loop-i.i in
    c.sum-v.ensures ∙ ap (◌⊕◌ (get_or g (i - 1) 0)) c.product.ensures ∙ horner-turn g c.args.f c.loop-i.v i (omega arith) (omega arith) c.loop-i.invariant
