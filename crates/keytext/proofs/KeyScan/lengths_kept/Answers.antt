-- Each return follows from the bounds that led to it.
use Rattle.std.proofs.Common.{arith}
use Rattle.std.proofs.lemmas.Bool.Decides.{nat_tests}
use Rattle.keytext.specs.Scan.{saved_lengths}
use Rattle.keytext.proofs.KeyScan.lengths_kept.Goals as goal

pub returns-then-self-lt1 : goal.returns-then-self-lt1
unfolding saved_lengths
returns-then-self-lt1 c = grind (arith, nat_tests)

pub returns-then-this-lt1 : goal.returns-then-this-lt1
unfolding saved_lengths
returns-then-this-lt1 c = grind (arith, nat_tests)

pub returns-in-1-to-max-1-to-3 : goal.returns-in-1-to-max-1-to-3
unfolding saved_lengths
returns-in-1-to-max-1-to-3 c = grind (arith, nat_tests)

pub returns-else-this-lt4 : goal.returns-else-this-lt4
unfolding saved_lengths
returns-else-this-lt4 c = grind (arith, nat_tests)
