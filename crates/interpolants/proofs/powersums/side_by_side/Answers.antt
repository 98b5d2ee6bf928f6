use Rattle.std.proofs.Common.{add-one, ap₂, arith, refl, sym, ◌∙◌, ◌≡◌}
use Rattle.cube.specs.Sum.{sum}
use Rattle.lists.specs.Xor.{◌⊕◌}
use Rattle.interpolants.proofs.Laws.Words.{words-at}
use Rattle.interpolants.proofs.powersums.side_by_side.Goals as goal

pub loop-i-init : goal.loop-i-init
unfolding sum
loop-i-init c = refl

pub loop-i-preserved : goal.loop-i-preserved
unfolding ◌⊕◌ sum
loop-i-preserved c = rw (add-one c.loop-i.i) (ap₂ ◌⊕◌ c.loop-i.invariant c.placed-w.ensures)

pub returns : goal.returns
returns c = let n : c.loop-i.i ≡ c.args.n = omega arith in
    (rw n at c.loop-i.invariant) ∙ sym (words-at c.args.rows.now c.args.n c.args.m c.args.j c.requires.3)
