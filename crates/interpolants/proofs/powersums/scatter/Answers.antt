use Rattle.std.proofs.Common.{arith, get_or, length, refl, ◌-◌, ◌∙◌, ◌≡◌}
use Rattle.interpolants.specs.Added.{added-first, added_next, added-ext, spaced-rows}
use Rattle.interpolants.specs.Classes.{progression}
use Rattle.interpolants.proofs.powersums.scatter.Goals as goal

pub loop-o-init : goal.loop-o-init
loop-o-init c = (refl, added-first 255 _ _)

pub loop-o-preserved : goal.loop-o-preserved
loop-o-preserved c = let n : length c.loop-o.a ≡ 255 = c.loop-o.invariant.0 ∙ c.requires.0 in
    (omega (arith, c.add_powers), added_next 255 _ c.loop-o.invariant.1 (rw n at (c.add_powers.ensures _ c.multiples-table.ensures)))

pub returns : goal.returns
returns c = let n : c.loop-o.o ≡ 17 = omega arith in
    added-ext (λ k h. spaced-rows (λ o. progression (get_or c.args.c.now (16 - o) 0) 0 c.args.e) k h) (rw n at c.loop-o.invariant.1)
