-- The word and the number one behind the other (`runs-written`).
use Rattle.std.proofs.Common.{arith}
use Rattle.unlock.specs.Lines.{runs_word}
use Rattle.unlock.specs.Lines.Laws.{runs-written}
use Rattle.unlock.proofs.report.runs_line.Goals as goal

pub returns : goal.returns
unfolding runs_word
returns c = runs-written c.args.out.now c.args.runs
    (omega (arith, c.put.ensures.next, c.number_field-b.ensures.1, c.put-a.ensures.next)) c.put-a.ensures c.number_field-b.ensures.0
    c.put.ensures
