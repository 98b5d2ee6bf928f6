-- The seed is written to the front of the buffer, from where `descend` takes it.
use Rattle.std.proofs.Common.{List, ap, arith, length, pow_pos, take, ℕ, ◌+◌, ◌∙◌, ◌≡◌, ◌≤◌}
use Rattle.shake256.specs.Fips.{SHAKE256}
use Rattle.lists.specs.Part.{put_at}
use Rattle.exchange.specs.Tree.{leaf_seeds}
use Rattle.seedtree.specs.Writes.{take-put_at-end}
use Rattle.seedtree.specs.Laid.{laid}
use Rattle.seedtree.proofs.levels.below.Goals as goal
use Rattle.seedtree.proofs.levels.below.Goals.{Start}

room : (c : Start) → 0 + length c.args.seed.now ≤ length c.args.seeds.now
room c =
    omega (arith, c.requires.below.size, c.requires.sixteen, pow_pos c.args.l)

pub put_at-requires : goal.put_at-requires
put_at-requires c = room (goal.at.put_at-requires c).Start

pub returns : goal.returns
returns c =
    λ prefix b. let seed = c.args.seed.now in
    let d = c.args.seeds.now in let size : 16 ≡ 0 + length seed = omega (arith, c.requires.sixteen) in
    c.descend.ensures prefix b ∙ ap (λ (s : List ℕ). laid (leaf_seeds SHAKE256 prefix c.args.l c.args.v s))
    (ap (take 16) c.put_at.ensures ∙ ap (λ (n : ℕ). take n (put_at d 0 seed)) size ∙ take-put_at-end d 0 seed (room (goal.at.returns c).Start))
