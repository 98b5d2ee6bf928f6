-- Each return has the tests that the definition is made of.
use Rattle.std.proofs.Common.{sym, ◌∙◌}
use Rattle.extractor.specs.Early.{all_lengths}
use Rattle.extractor.proofs.checks.all_lengths.Goals as goal

pub returns-then-lent : goal.returns-then-lent
unfolding all_lengths
returns-then-lent c = let a = sym c.message_lengths-then-message_lengths.ensures ∙ c.if-message_lengths-2.true in
    rw (sym c.message_lengths.ensures ∙ c.if-message_lengths.true, a, sym c.lent.ensures ∙ c.if-lent.true, c.outputs_length.ensures)

pub returns-else-lent : goal.returns-else-lent
unfolding all_lengths
returns-else-lent c = let a = sym c.message_lengths-then-message_lengths.ensures ∙ c.if-message_lengths-2.true in
    rw (sym c.message_lengths.ensures ∙ c.if-message_lengths.true, a, sym c.lent.ensures ∙ c.if-lent.false) c.if-lent.false

pub returns-else-message_lengths-2 : goal.returns-else-message_lengths-2
unfolding all_lengths
returns-else-message_lengths-2 c = rw (sym c.message_lengths.ensures ∙ c.if-message_lengths.true, sym c.message_lengths-then-message_lengths.ensures ∙ c.if-message_lengths-2.false) c.if-message_lengths-2.false

pub returns-else-message_lengths : goal.returns-else-message_lengths
unfolding all_lengths
returns-else-message_lengths c = rw (sym c.message_lengths.ensures ∙ c.if-message_lengths.false) c.if-message_lengths.false
