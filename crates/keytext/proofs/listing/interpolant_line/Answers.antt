-- The line of what was made in the lent slice.
use Rattle.std.proofs.Common.{arith}
use Rattle.keytext.specs.Listing.{s_word}
use Rattle.keytext.proofs.listing.interpolant_line.Goals as goal

pub returns : goal.returns
unfolding s_word
returns c = let v = c.result_line in record { written = rw (c.interpolate.ensures, c.copy.ensures) at v.ensures.written; value = omega (arith, v.ensures.value, c.interpolate.auto.x, c.copy.auto.out, c.requires.0) }
