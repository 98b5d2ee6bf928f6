-- Name, length and digest one behind the other (`message-written`).
use Rattle.std.proofs.Common.{arith}
use Rattle.unlock.specs.Lines.Laws.{message-written}
use Rattle.unlock.proofs.report.message_line.Goals as goal

pub returns : goal.returns
returns c = let a = c.args in let v = rw c.shake256.ensures at c.result_line.ensures.written in
    message-written a.out.now a.name.now a.message.now
    (omega (arith, c.result_line.ensures.value, c.number_field-b.ensures.1, c.put-a.ensures.next)) c.put-a.ensures c.number_field-b.ensures.0 v
