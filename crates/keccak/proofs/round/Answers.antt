-- The two calls compose as `round` does.
use Rattle.fips.specs.Permutation.{round}
use Rattle.keccak.proofs.round.Goals as goal

pub returns : goal.returns
unfolding round
returns c = cc
