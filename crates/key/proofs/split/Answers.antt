-- The points of E are gathered into the front and the others behind it (`split-made`).
use Rattle.std.proofs.Common.{drop, ◌++◌, ◌∙◌}
use Rattle.key.specs.Loops.Split.{sized-points, sized_inside, sized-outside, split-made}
use Rattle.key.proofs.split.Goals as goal

pub gather-requires : goal.gather-requires
gather-requires c = let f = c.requires.0 in let x = c.args.x.now in let e = c.points-fs.ensures in (
  f.light,
  sized-points c.args.w x _ f.light f.fits f.short e,
  sized_inside c.args.w x _ f.light f.fits f.short e c.args.out.now c.requires.1,
)

pub gather-requires-2 : goal.gather-requires-2
gather-requires-2 c = let f = c.requires.0 in let x = c.args.x.now in let e = c.points-fs.ensures in (
  f.light,
  sized-points c.args.w x _ f.light f.fits f.short e,
  sized-outside c.args.w x _ f.light f.fits f.short e (c.gather.new.out ++ drop c.args.w c.args.out.now)
      (c.out-1.given.1 ∙ c.requires.1),
)

pub returns : goal.returns
returns c = let f = c.requires.0 in
    split-made c.args.w c.args.x.now _ f.light f.fits f.short c.points-fs.ensures c.args.out.now _ _
    (c.out-1.given.1 ∙ c.requires.1) c.gather.ensures c.gather-2.ensures
