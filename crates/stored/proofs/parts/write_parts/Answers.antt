-- Each part is written behind the one before (`written-five`).
use Rattle.std.proofs.Common.{length, refl, ◌+◌}
use Rattle.stored.proofs.Laws.Parts.{written-five}
use Rattle.stored.proofs.parts.write_parts.Goals as goal

pub returns : goal.returns
returns c = let a = c.args.a.now in let b = c.args.b.now in let d = c.args.c.now in let e = c.args.d.now in
    let f = c.args.e.now in
    written-five c.args.out.now a b d e f _ _ _ _ _ (length a) (length a + length b) (length a + length b + length d) (length a + length b + length d + length e)
    c.put_at.ensures c.put_at-2.ensures c.put_at-3.ensures c.put_at-4.ensures c.put_at-5.ensures refl refl refl refl c.requires
