-- The scanners of the kinds start too.
use Rattle.keytext.proofs.KeyScan.new.Goals as goal

pub returns : goal.returns
returns c = rw (c.new-3.ensures, c.new-2.ensures, c.new.ensures)
