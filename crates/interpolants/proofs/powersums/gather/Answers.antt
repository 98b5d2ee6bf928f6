use Rattle.std.proofs.Common.{arith, refl, ◌≡◌}
use Rattle.interpolants.specs.Added.{added-first, added_next}
use Rattle.interpolants.specs.Classes.{class_sum}
use Rattle.interpolants.proofs.powersums.gather.Goals as goal

pub loop-q-init : goal.loop-q-init
loop-q-init c = (refl, added-first 17 _ _)

pub loop-q-preserved : goal.loop-q-preserved
loop-q-preserved c = (omega (arith, c.add_entry), added_next 17 _ c.loop-q.invariant.1 c.add_entry.ensures)

pub returns : goal.returns
unfolding class_sum
returns c = let n : c.loop-q.q ≡ 17 = omega arith in rw n at c.loop-q.invariant.1
