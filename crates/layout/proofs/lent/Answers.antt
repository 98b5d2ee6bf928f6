-- Where a length is wrong, the tests do not all hold; past the first two the last one decides.
use Rattle.std.proofs.Common.{arith}
use Rattle.std.proofs.lemmas.Bool.Decides.{nat_tests}
use Rattle.layout.specs.Lent.{lent}
use Rattle.layout.proofs.lent.Goals as goal

pub returns-then-y-y_length : goal.returns-then-y-y_length
unfolding lent
returns-then-y-y_length c = grind (arith, nat_tests)

pub returns-else-y-y_length : goal.returns-else-y-y_length
unfolding lent
returns-else-y-y_length c = grind (arith, nat_tests)
