-- The sibling's part of the buffer is lent to be filled, and comes back as a write.
use Rattle.std.proofs.Common.{List, ap, arith, length, ℕ, ◌*◌, ◌+◌, ◌-◌, ◌/◌, ◌∙◌, ◌≤◌}
use Rattle.shake256.specs.Fips.{SHAKE256}
use Rattle.lists.specs.Part.{put_at}
use Rattle.lists.specs.Part.Laws.{length-lent}
use Rattle.exchange.specs.Tree.{leaf_seeds}
use Rattle.seedtree.specs.Laid.{laid}
use Rattle.seedtree.specs.Way.{side}
use Rattle.seedtree.specs.Way.Laws.{side-le, skipped-le}
use Rattle.seedtree.proofs.Lent.{part-back}
use Rattle.seedtree.proofs.open_sibling.Goals as goal

pub overflow_sub-from : goal.overflow_sub-from
overflow_sub-from c = omega (arith, c.skipped.ensures, skipped-le c.args.way)

pub overflow_sub-side : goal.overflow_sub-side
overflow_sub-side c = omega (arith, c.side.ensures, side-le c.args.way)

pub returns : goal.returns
returns c =
    λ prefix b. let filled = c.below in let args = c.args in let w = args.way in let d = args.seeds.now in let half = w.size / 2 in
    let from = args.at + 16 * (half - c.skipped.result) in let room : from + 16 * half ≤ length d = omega (arith, c.requires.room) in
    let leaves : ℕ → List ℕ = λ n. laid (leaf_seeds SHAKE256 prefix args.l (2 * w.node + (1 - n)) args.sibling.now) in
    part-back d filled.new.seeds from (16 * half) (filled.auto.seeds ∙ length-lent from (16 * half) d room)
    ∙ ap (put_at d from) (filled.ensures prefix b ∙ ap leaves c.side.ensures)
    ∙ ap (λ (n : ℕ). put_at d (args.at + 16 * (half - n)) (leaves (side w))) c.skipped.ensures
