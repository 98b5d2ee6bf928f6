-- Each return follows from the test that led to it.
use Rattle.std.proofs.Common.{arith}
use Rattle.std.proofs.lemmas.Bool.Decides.{nat_tests}
use Rattle.text.specs.Scanner.Decimal.{decimal_accepts}
use Rattle.text.proofs.decimal.DecimalScan.accepts.Goals as goal

pub returns-then-self-ne0 : goal.returns-then-self-ne0
unfolding decimal_accepts
returns-then-self-ne0 c = grind (arith, nat_tests)

pub returns-else-self-ne0 : goal.returns-else-self-ne0
unfolding decimal_accepts
returns-else-self-ne0 c = grind (arith, nat_tests)
