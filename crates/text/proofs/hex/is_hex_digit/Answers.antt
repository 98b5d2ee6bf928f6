-- Each arm follows from the bounds that led to it.
use Rattle.std.proofs.Common.{arith}
use Rattle.std.proofs.lemmas.Bool.Decides.{nat_tests}
use Rattle.text.specs.Hex.{is_hex_digit}
use Rattle.text.proofs.hex.is_hex_digit.Goals as goal

pub returns-in-48-to-57 : goal.returns-in-48-to-57
unfolding is_hex_digit
returns-in-48-to-57 c = grind (arith, nat_tests)

pub returns-in-48-to-57-2 : goal.returns-in-48-to-57-2
unfolding is_hex_digit
returns-in-48-to-57-2 c = grind (arith, nat_tests)

pub returns-in_default : goal.returns-in_default
unfolding is_hex_digit
returns-in_default c = grind (arith, nat_tests)

pub returns-in_default-2 : goal.returns-in_default-2
unfolding is_hex_digit
returns-in_default-2 c = grind (arith, nat_tests)

pub returns-in_default-3 : goal.returns-in_default-3
unfolding is_hex_digit
returns-in_default-3 c = grind (arith, nat_tests)
