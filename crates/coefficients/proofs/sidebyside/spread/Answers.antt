-- A byte times 0x0101010101010101 stands in all bytes of the word, as `spread` says.
use Rattle.std.proofs.Common.{ap}
use Rattle.coefficients.specs.Spread.{spread}
use Rattle.coefficients.proofs.sidebyside.spread.Goals as goal

pub returns : goal.returns
unfolding spread
returns c = ap spread c.from.ensures
