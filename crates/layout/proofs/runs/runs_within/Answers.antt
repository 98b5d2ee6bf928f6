use Rattle.std.proofs.Common.{arith}
use Rattle.std.proofs.lemmas.Bool.Decides.{nat_tests}
use Rattle.layout.specs.Runs.{runs_within}
use Rattle.layout.proofs.runs.runs_within.Goals as goal

pub returns : goal.returns
unfolding runs_within
returns c = grind (arith, nat_tests)
