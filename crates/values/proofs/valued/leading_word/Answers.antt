-- Where not `first`, the word is that of the zero point.
use Rattle.std.proofs.Common.{Bool, ap, cond, sym, ◌∙◌}
use Rattle.tower.specs.Field.{point}
use Rattle.exchange.specs.Reading.{𝟎}
use Rattle.points.specs.Multiples.{word_of}
use Rattle.values.specs.Evaluation.Laws.{word_of-zero}
use Rattle.values.proofs.valued.leading_word.Goals as goal

pub returns-else-first : goal.returns-else-first
returns-else-first c = word_of-zero ∙ ap (λ (b : Bool). word_of (cond b (point c.args.power) 𝟎)) (sym c.if-first.false)
