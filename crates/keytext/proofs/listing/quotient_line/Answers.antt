-- The line of what was made in the lent slice.
use Rattle.std.proofs.Common.{arith}
use Rattle.keytext.specs.Listing.{p_word}
use Rattle.keytext.proofs.listing.quotient_line.Goals as goal

pub returns : goal.returns
unfolding p_word
returns c = let v = c.result_line in
    record { written = rw c.quotient.ensures.0 at v.ensures.written; value = omega (arith, v.ensures.value, c.quotient.auto.out, c.requires.room.1) }
