-- The record is the definition's.
use Rattle.std.proofs.Common.{refl}
use Rattle.calls.specs.Prover.{fresh}
use Rattle.prover.proofs.fresh.Goals as goal

pub returns : goal.returns
unfolding fresh
returns c = refl
