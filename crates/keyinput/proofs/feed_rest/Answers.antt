-- A piece more was read (`read-on`).
use Rattle.keyinput.specs.Read.{read-on}
use Rattle.keyinput.proofs.feed_rest.Goals as goal

pub loop-preserved : goal.loop-preserved
loop-preserved g c = read-on c.loop.invariant (rw c.in-Some.is at c.in_ok-next.ensures.read)
