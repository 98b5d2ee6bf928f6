-- The opening on the session read, and its outcome kept (`opening-kept`).
use Rattle.verifier.specs.Held.{held}
use Rattle.capi.specs.Verifier.Laws.{opening-misfit, opening-kept, judged-small, opening-within}
use Rattle.capi.proofs.verifying.unlock_verifier_opening.Goals as goal

pub returns-then-session-ne-VERIFIER_SIZE : goal.returns-then-session-ne-VERIFIER_SIZE
returns-then-session-ne-VERIFIER_SIZE c = opening-misfit _ _ _ _ c.if-session-ne-VERIFIER_SIZE.true

pub keep_opening-requires : goal.keep_opening-requires
keep_opening-requires c = (c.if-session-ne-VERIFIER_SIZE.false, judged-small _ _ c.take_opening-answer.ensures (opening-within _ _ _ _ _))

pub returns : goal.returns
returns c = opening-kept _ _ _ _ (held c.read_verifier-s.result) _ _ _ c.if-session-ne-VERIFIER_SIZE.false c.read_verifier-s.ensures
    c.take_opening-answer.ensures c.keep_opening.ensures
