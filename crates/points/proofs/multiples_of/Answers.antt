-- The four tables stand one behind the other (`tables-made`).
use Rattle.points.specs.Multiples.Laws.{tables-made}
use Rattle.points.proofs.multiples_of.Goals as goal

pub returns : goal.returns
returns c =
    tables-made c.args.out.now _ _ _ _ _ _ _ _ c.requires c.by_x-x.ensures c.by_z-z.ensures c.by_z-xz.ensures
    c.put_multiples.ensures c.put_multiples-2.ensures c.put_multiples-3.ensures c.put_multiples-4.ensures
