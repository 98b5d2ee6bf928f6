-- The words and the number one behind the other (`refused-written`).
use Rattle.std.proofs.Common.{arith, ◌∙◌}
use Rattle.unlock.specs.Lines.Laws.{refused-written}
use Rattle.unlock.proofs.report.refused_line.Goals as goal

pub returns : goal.returns
returns c = let a = c.args in
    refused-written a.out.now a.r (omega (arith, c.put.ensures.next, c.number_field-b.ensures.1, c.put-a.ensures.next)) c.put-a.ensures
    (c.from-2.ensures ∙ c.from.ensures) c.number_field-b.ensures.0 c.put.ensures
