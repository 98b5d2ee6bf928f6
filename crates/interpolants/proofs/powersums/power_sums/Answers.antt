use Rattle.std.proofs.Common.{arith, ◌≡◌}
use Rattle.interpolants.specs.Added.{added-first, added_next}
use Rattle.interpolants.proofs.Laws.Classes.{power-sums-of}
use Rattle.interpolants.proofs.powersums.power_sums.Goals as goal

pub loop-class-init : goal.loop-class-init
loop-class-init c = (omega (arith, c.clear, c.requires.1), rw (c.clear.ensures, c.requires.1) (added-first 255 _ _))

pub loop-class-preserved : goal.loop-class-preserved
loop-class-preserved c = (omega (arith, c.add_class), added_next 255 _ c.loop-class.invariant.1 c.add_class.ensures)

pub returns : goal.returns
returns c = let n : c.loop-class.class ≡ 15 = omega arith in
    λ i h. power-sums-of i h _ _ _ c.loop-class.a c.loop-class.invariant.0 (rw n at c.loop-class.invariant.1)
