-- The scanner accepts exactly the decimals.
use Rattle.std.proofs.Common.{sym, ◌∙◌}
use Rattle.unlock.specs.Count.Laws.{named-decimal, named_other}
use Rattle.unlock.proofs.count.named.Goals as goal

pub returns-then-accepts : goal.returns-then-accepts
returns-then-accepts c = named-decimal c.args.text.now c.scanned-scan.ensures (sym c.accepts.ensures ∙ c.if-accepts.true)

pub returns-else-accepts : goal.returns-else-accepts
returns-else-accepts c = named_other c.args.text.now c.scanned-scan.ensures (sym c.accepts.ensures ∙ c.if-accepts.false)
