-- `is_none` says whether a digit is kept.
use Rattle.text.specs.Scanner.Hex.{hex_accepts}
use Rattle.text.proofs.hex.HexScan.accepts.Goals as goal

pub returns-then-is_none : goal.returns-then-is_none
unfolding hex_accepts
returns-then-is_none c = rw (c.is_none.ensures, c.if-is_none.true)

pub returns-else-is_none : goal.returns-else-is_none
unfolding hex_accepts
returns-else-is_none c = rw (c.is_none.ensures, c.if-is_none.false)
