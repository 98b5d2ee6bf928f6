-- A shift of 1 by at most 8 places is that power of 2.
use Rattle.std.proofs.Common.{ap, arith, one-mul, shl_exact, ◌^◌, ◌∙◌}
use Rattle.layout.specs.Layout.Bounds.{levels-most}
use Rattle.layout.proofs.leaf_count.Goals as goal

pub overflow_shl-result : goal.overflow_shl-result
overflow_shl-result c = omega (arith, levels-most _ c.requires, c.levels.ensures)

pub returns : goal.returns
returns c =
    let m = levels-most _ c.requires in
    let l = c.levels.result in
    shl_exact 1 l 64 (omega (arith, m, c.levels.ensures)) (omega arith) ∙ one-mul (2 ^ l) ∙ ap (◌^◌ 2) c.levels.ensures
