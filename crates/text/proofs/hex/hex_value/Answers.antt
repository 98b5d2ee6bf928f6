-- Each arm follows from the bounds that led to it.
use Rattle.std.proofs.Common.{arith}
use Rattle.std.proofs.lemmas.Bool.Decides.{nat_tests}
use Rattle.text.specs.Hex.{hex_value}
use Rattle.text.proofs.hex.hex_value.Goals as goal

pub returns-in-48-to-57-clause-value : goal.returns-in-48-to-57-clause-value
unfolding hex_value
returns-in-48-to-57-clause-value c = grind (arith, nat_tests)

pub returns-in-97-to-102-clause-value : goal.returns-in-97-to-102-clause-value
unfolding hex_value
returns-in-97-to-102-clause-value c = grind (arith, nat_tests)

pub returns-in_default-clause-value : goal.returns-in_default-clause-value
unfolding hex_value
returns-in_default-clause-value c = grind (arith, nat_tests)

pub returns-in_default-2-clause-value : goal.returns-in_default-2-clause-value
unfolding hex_value
returns-in_default-2-clause-value c = grind (arith, nat_tests)

pub returns-in_default-3-clause-value : goal.returns-in_default-3-clause-value
unfolding hex_value
returns-in_default-3-clause-value c = grind (arith, nat_tests)
