-- 03 to the 255 is 1, so 255 less in the exponent changes nothing.
use Rattle.std.proofs.Common.{arith, refl}
use Rattle.bytefield.proofs.Laws.Powers.{wrap}
use Rattle.bytefield.proofs.wrapped.Goals as goal

pub returns-then-i-lt255 : goal.returns-then-i-lt255
returns-then-i-lt255 c = (c.if-i-lt255.true, refl)

pub returns : goal.returns
returns c = (omega arith, wrap _ (omega arith))
