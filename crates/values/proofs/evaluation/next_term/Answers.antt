-- The terms are those of the power, whose own table is made here; the next power is the product with r.
use Rattle.std.proofs.Common.{arith}
use Rattle.tower.specs.Field.{point}
use Rattle.points.specs.Multiples.Laws.{own-table}
use Rattle.values.proofs.evaluation.next_term.Goals as goal

pub returns : goal.returns
returns c = (
  c.add_terms-terms.ensures.0 (point c.args.power)
      (own-table c.multiples-own.result c.args.power _ c.multiples-own.ensures c.word_of.ensures),
  c.next_power.ensures.0,
  omega (arith, c.next_power.ensures.1, c.add_terms-terms.ensures.1),
)
