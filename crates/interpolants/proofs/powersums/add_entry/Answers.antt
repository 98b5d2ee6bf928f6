-- Where the byte has an entry, the logarithm is that of its scale (`scaled_by-at`); past the end nothing is added (`scaled_by-none`).
use Rattle.std.proofs.Common.{arith, ◌-◌, ◌<◌, ◌∙◌}
use Rattle.interpolants.specs.Added.{added_none, added-ext, spaced-one}
use Rattle.interpolants.proofs.Laws.Classes.{power_pos, scaled_by-at, scaled_by-none}
use Rattle.interpolants.proofs.powersums.add_entry.Goals as goal
use Rattle.interpolants.proofs.powersums.add_entry.Goals.{After-power_of-f}

nonzero : (c : After-power_of-f) → 0 < c.power_of-f.result
nonzero c =
    omega (arith, c.power_of-f.ensures, power_pos c.args.e)

pub overflow_sub-j : goal.overflow_sub-j
overflow_sub-j c = omega (arith, nonzero (goal.at.overflow_sub-j c).After-power_of-f)

pub returns-then-j-m : goal.returns-then-j-m
returns-then-j-m c = let n = c.requires.1 in added-ext
    (λ k h. spaced-one _ k h ∙ scaled_by-at c.args.rows.now c.args.scales.now c.args.n c.args.e _ _ _ c.power_of-f.ensures
    c.side_by_side.ensures c.log_of-s.ensures.1 (16 - k)) (rw n at (c.add_powers.ensures _ c.multiples-table.ensures))

pub returns-else-j-m : goal.returns-else-j-m
returns-else-j-m c = added_none _ (λ k. scaled_by-none c.args.rows.now c.args.scales.now c.args.n c.args.e _ c.power_of-f.ensures (omega arith) (16 - k))
