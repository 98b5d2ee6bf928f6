-- F is the product over the bytes above 0.
use Rattle.polynomial.specs.Interpolant.{vanishing_of}
use Rattle.polynomial.proofs.vanishing.Goals as goal

pub returns : goal.returns
unfolding vanishing_of
returns c = c.vanishing_above.ensures
