-- The two sweeps one after the other (`both-sweeps`).
use Rattle.polynomial.specs.Loops.Newton.{both-sweeps}
use Rattle.polynomial.proofs.interpolate_at.Goals as goal

pub returns : goal.returns
returns c = both-sweeps _ _ _ _ c.to_newton.ensures c.from_newton.ensures
