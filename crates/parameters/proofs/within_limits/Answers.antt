-- Each range gives two of the tests; where one of them does not hold, all of them together do not.
use Rattle.std.proofs.Common.{arith}
use Rattle.std.proofs.lemmas.Bool.Decides.{nat_tests}
use Rattle.parameters.specs.Limits.{limits, within_limits}
use Rattle.parameters.proofs.within_limits.Goals as goal

pub returns-then-contains-4 : goal.returns-then-contains-4
unfolding limits within_limits
returns-then-contains-4 c = grind (arith, nat_tests)

pub returns-else-contains-4 : goal.returns-else-contains-4
unfolding limits within_limits
returns-else-contains-4 c = grind (arith, nat_tests)
