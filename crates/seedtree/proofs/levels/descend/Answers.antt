use Rattle.std.proofs.Common.{List, ap, arith, length, one-mul, pow_pos, refl, shl_exact, subst, sym, ℕ, ◌*◌, ◌%◌, ◌^◌, ◌∙◌, ◌≡◌, ◌≤◌}
use Rattle.shake256.specs.Fips.{SHAKE256}
use Rattle.shake256.proofs.Laws.{length-SHAKE256}
use Rattle.lists.specs.Part.{put_at}
use Rattle.seedtree.specs.Shapes.{Grow}
use Rattle.seedtree.specs.Levels.{grown}
use Rattle.seedtree.specs.Levels.Reached.{reached, reached-none, reached-more, reached-all, node-room, level-room}
use Rattle.seedtree.proofs.levels.descend.Goals as goal
use Rattle.seedtree.proofs.levels.descend.Goals.{In-loop-i, Start}

one-seed : (c : Start) → 16 ≤ length c.args.seeds.now
one-seed c = omega (arith, c.requires.size, pow_pos c.args.l)

-- how many seeds there are
counted : (c : In-loop-i) → 1 * 2 ^ c.loop-i.i % 18446744073709551616 ≡ 2 ^ c.loop-i.i
counted c = shl_exact 1 c.loop-i.i 64 (omega arith) (omega arith) ∙ one-mul (2 ^ c.loop-i.i)

room : (c : In-loop-i) → Grow (2 ^ c.loop-i.i) (2 ^ c.loop-i.i * c.args.v) c.loop-i.seeds
room c = let i = c.loop-i.i in record {
  nodes = omega (arith, node-room i c.args.v (omega arith) c.requires.node);
  room = omega (arith, level-room i c.args.l (omega arith), c.requires.size, c.loop-i.invariant.0);
}

pub loop-i-init : goal.loop-i-init
loop-i-init c = (refl, λ prefix b. reached-none SHAKE256 prefix c.args.v c.args.seeds.now (one-seed (goal.at.loop-i-init c).Start))

pub grow-requires : goal.grow-requires
grow-requires c =
    let here = (goal.at.grow-requires c).In-loop-i in
    subst (λ (n : ℕ). Grow n (n * c.args.v) c.loop-i.seeds) (sym (counted here)) (room here)

pub loop-i-preserved : goal.loop-i-preserved
loop-i-preserved c = let made = c.grow in let v = c.args.v in let i = c.loop-i.i in (
  made.auto.seeds ∙ c.loop-i.invariant.0,
  λ prefix b. made.ensures prefix b
      ∙ ap (λ (n : ℕ). put_at c.loop-i.seeds 0 (grown SHAKE256 prefix n (n * v) c.loop-i.seeds)) (counted (goal.at.loop-i-preserved c).In-loop-i)
      ∙ ap (λ (s : List ℕ). put_at s 0 (grown SHAKE256 prefix (2 ^ i) (2 ^ i * v) s)) (c.loop-i.invariant.1 prefix b)
      ∙ reached-more SHAKE256 prefix length-SHAKE256 i v c.args.seeds.now (one-seed (goal.at.loop-i-preserved c).Start),
)

pub returns : goal.returns
returns c =
    λ prefix b. let d = c.args.seeds.now in let last : c.loop-i.i ≡ c.args.l = omega arith in
    c.loop-i.invariant.1 prefix b ∙ ap (reached SHAKE256 prefix c.args.v d) last ∙ reached-all SHAKE256 prefix c.args.l c.args.v d
    c.requires.size
