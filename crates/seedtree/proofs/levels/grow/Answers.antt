use Rattle.std.proofs.Common.{List, ap, arith, refl, ℕ, ◌*◌, ◌+◌, ◌-◌, ◌<◌, ◌∙◌, ◌≡◌}
use Rattle.shake256.specs.Fips.{SHAKE256}
use Rattle.shake256.proofs.Laws.{length-SHAKE256}
use Rattle.lists.specs.Part.{part, put_at}
use Rattle.exchange.specs.Tree.{children}
use Rattle.seedtree.specs.Levels.Growing.{growing, growing-none, growing-more, growing-all}
use Rattle.seedtree.proofs.levels.grow.Goals as goal

pub loop-j-init : goal.loop-j-init
loop-j-init c = let args = c.args in (refl, λ prefix b. growing-none SHAKE256 prefix args.c args.v args.seeds.now)

pub loop-j-preserved : goal.loop-j-preserved
loop-j-preserved c = let made = c.expand in let args = c.args in let d = args.seeds.now in let j = c.loop-j.j - 1 in
    let one_more : c.loop-j.j ≡ j + 1 = omega arith in
    let within : j < args.c = omega arith in (
      made.auto.seeds ∙ c.loop-j.invariant.0,
      λ prefix b. made.ensures prefix b
          ∙ ap (λ (s : List ℕ). put_at s (32 * j) (children SHAKE256 prefix (args.v + j) (part s (16 * j) 16)))
          (c.loop-j.invariant.1 prefix b ∙ ap (growing SHAKE256 prefix args.c args.v d) one_more)
          ∙ growing-more SHAKE256 prefix length-SHAKE256 args.c args.v j d within c.requires.room,
    )

pub returns : goal.returns
returns c =
    λ prefix b. let args = c.args in let d = args.seeds.now in let last : c.loop-j.j ≡ 0 = omega arith in
    c.loop-j.invariant.1 prefix b ∙ ap (growing SHAKE256 prefix args.c args.v d) last ∙ growing-all SHAKE256 prefix args.c args.v d
