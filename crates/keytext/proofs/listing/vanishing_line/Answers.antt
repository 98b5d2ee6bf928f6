-- The line of what was made in the lent slice.
use Rattle.std.proofs.Common.{arith}
use Rattle.keytext.specs.Listing.{f_word}
use Rattle.keytext.proofs.listing.vanishing_line.Goals as goal

pub returns : goal.returns
unfolding f_word
returns c = let v = c.result_line in
    record { written = rw c.vanishing.ensures at v.ensures.written; value = omega (arith, v.ensures.value, c.vanishing.auto.out) }
