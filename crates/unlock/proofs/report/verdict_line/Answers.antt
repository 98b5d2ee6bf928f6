-- Both cases are the definition's.
use Rattle.std.proofs.Common.{ap, sym}
use Rattle.unlock.specs.Lines.{verdict_word, accepted_word, verdict_line}
use Rattle.unlock.specs.Lines.Laws.{written_as}
use Rattle.unlock.proofs.report.verdict_line.Goals as goal

pub returns-in-Ok : goal.returns-in-Ok
unfolding verdict_line verdict_word accepted_word
returns-in-Ok c = written_as (ap verdict_line (sym c.in-Ok.is)) c.put.ensures

pub returns-in-Err : goal.returns-in-Err
unfolding verdict_line verdict_word accepted_word
returns-in-Err c = written_as (ap verdict_line (sym c.in-Err.is)) c.refused_line.ensures
