-- The line of what was made in the lent slice.
use Rattle.std.proofs.Common.{arith}
use Rattle.keytext.specs.Listing.{locator_word}
use Rattle.keytext.proofs.listing.locator_line.Goals as goal

pub returns : goal.returns
unfolding locator_word
returns c = let v = c.result_line in
    record { written = rw c.locator.ensures at v.ensures.written; value = omega (arith, v.ensures.value, c.locator.auto.out, c.requires.room.0) }
