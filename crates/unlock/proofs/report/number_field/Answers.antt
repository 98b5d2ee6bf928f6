-- The tab, and the decimal behind it.
use Rattle.std.proofs.Common.{arith}
use Rattle.keytext.specs.Listing.Laws.{lines-written}
use Rattle.unlock.proofs.report.number_field.Goals as goal

pub returns : goal.returns
returns c = let v = c.put_number.ensures in
    (lines-written (omega (arith, v.1, c.put-a.ensures.next)) c.put-a.ensures v.0, omega (arith, v.1, c.put-a.ensures.next))
