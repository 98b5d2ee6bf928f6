-- The bytes of the word are those of the product (`bytes-word_of`).
use Rattle.std.proofs.Common.{ap, rules, ◌∙◌}
use Rattle.packed.specs.Word.{bytes}
use Rattle.points.specs.Multiples.Laws.{bytes-word_of}
use Rattle.points.proofs.counted_product.Goals as goal

pub returns : goal.returns
returns c =
    ((λ b m. c.point_of.ensures ∙ ap (bytes 4) (c.by_table.ensures b m) ∙ bytes-word_of _), search rules)
