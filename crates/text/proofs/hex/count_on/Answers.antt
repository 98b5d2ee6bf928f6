-- Each return follows from the test that led to it.
use Rattle.std.proofs.Common.{arith}
use Rattle.std.proofs.lemmas.Bool.Decides.{nat_tests}
use Rattle.text.specs.Scanner.Hex.{counted}
use Rattle.text.proofs.hex.count_on.Goals as goal

pub returns-then-n-cap : goal.returns-then-n-cap
unfolding counted
returns-then-n-cap c = grind (arith, nat_tests)

pub returns-else-n-cap : goal.returns-else-n-cap
unfolding counted
returns-else-n-cap c = grind (arith, nat_tests)
