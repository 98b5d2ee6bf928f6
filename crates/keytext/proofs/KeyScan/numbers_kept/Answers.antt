-- Each return follows from the bounds that led to it.
use Rattle.std.proofs.Common.{arith}
use Rattle.std.proofs.lemmas.Bool.Decides.{nat_tests}
use Rattle.keytext.specs.Scan.{saved_numbers}
use Rattle.keytext.proofs.KeyScan.numbers_kept.Goals as goal

pub returns-then-self-lt1 : goal.returns-then-self-lt1
unfolding saved_numbers
returns-then-self-lt1 c = grind (arith, nat_tests)

pub returns-in-0-1-to-5 : goal.returns-in-0-1-to-5
unfolding saved_numbers
returns-in-0-1-to-5 c = grind (arith, nat_tests)

pub returns-else-this-lt6 : goal.returns-else-this-lt6
unfolding saved_numbers
returns-else-this-lt6 c = grind (arith, nat_tests)

pub returns : goal.returns
unfolding saved_numbers
returns c = grind (arith, nat_tests)
