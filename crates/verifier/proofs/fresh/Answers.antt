-- The session is the definition's.
use Rattle.verifier.specs.Held.Laws.{fresh-held}
use Rattle.verifier.proofs.fresh.Goals as goal

pub returns : goal.returns
returns c = fresh-held
