-- The parts of the line, one behind the other (`refused-written`).
use Rattle.std.proofs.Common.{arith, ◌∙◌}
use Rattle.keytext.specs.Listing.Laws.{refused-written, refused_end}
use Rattle.keytext.proofs.listing.refused.Goals as goal

pub put_at-requires-2 : goal.put_at-requires-2
put_at-requires-2 c = omega (arith, refused_end _ c.put_decimal-e.ensures.0, c.put_decimal-e.auto.out, c.put_at.auto.out, c.requires)

pub overflow_add-result : goal.overflow_add-result
overflow_add-result c = omega (arith, refused_end _ c.put_decimal-e.ensures.0)

pub returns : goal.returns
returns c = refused-written _ c.args.r c.requires (c.from-2.ensures ∙ c.from.ensures) c.put_at.ensures c.put_decimal-e.ensures.0
    c.put_decimal-e.ensures.1 c.put_at-2.ensures
