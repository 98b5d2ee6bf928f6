-- Past the slice's end a store changes nothing (`set_out`).
use Rattle.std.proofs.Common.{sym}
use lib.Seq.{set_out}
use Rattle.text.proofs.hex.store.Goals as goal

pub returns-else-at-out : goal.returns-else-at-out
returns-else-at-out c = sym (set_out _ _ _ c.if-at-out.false)
