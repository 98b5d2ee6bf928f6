-- The number that the four bytes are, the lowest first, is the word (`number-word`).
use Rattle.std.proofs.Common.{w8, ◌∙◌}
use borrow.Author.Rules.{elem_Fits}
use Rattle.points.specs.Multiples.Laws.{number-word}
use Rattle.points.proofs.word_of.Goals as goal

pub returns : goal.returns
returns c =
    c.from.ensures ∙ c.from_le_bytes.ensures
    ∙ number-word c.args.a (λ i. (elem_Fits w8 w8 c.args.a c.well_formed.0.0 i c.well_formed.0.1.1 tt).fits)
