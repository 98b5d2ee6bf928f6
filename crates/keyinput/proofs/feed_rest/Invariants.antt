-- The invariant: some text was read so far.
use Rattle.keytext.specs.Scan.{held}
use Rattle.keyinput.specs.Read.{Read}
use Rattle.keyinput.proofs.feed_rest.Given as goal

abbrev pub invariant-loop : goal.invariant-loop
invariant-loop g l = Read (held l.initial.scan l.initial.matrix l.initial.y l.initial.x_a) (held l.scan l.matrix l.y l.x_a)
