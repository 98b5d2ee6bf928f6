-- The count of the numbers decides (`begin-unnamed`, `begin-named`); then the call on the session read, and its outcome kept (`call_kept`).
use Rattle.verifier.specs.Held.{held}
use Rattle.capi.specs.Verifier.Laws.{call-misfit, call_kept, kept_small, begin-within, begin-unnamed, begin-named}
use Rattle.capi.proofs.verifying.unlock_verifier_begin.Goals as goal

pub returns-then-set-ne-LENGTH : goal.returns-then-set-ne-LENGTH
returns-then-set-ne-LENGTH c = begin-unnamed _ _ _ _ c.if-set-ne-LENGTH.true

pub returns-then-session-ne-VERIFIER_SIZE : goal.returns-then-session-ne-VERIFIER_SIZE
returns-then-session-ne-VERIFIER_SIZE c = begin-named _ _ _ _ _ _ c.if-set-ne-LENGTH.false c.parameters_of-p.ensures (call-misfit _ _ _ _ c.misfit_number.ensures c.if-session-ne-VERIFIER_SIZE.true)

pub keep-requires : goal.keep-requires
keep-requires c = (c.if-session-ne-VERIFIER_SIZE.false, kept_small _ _ c.start-answer.ensures (begin-within _ _ _ _))

pub returns : goal.returns
returns c = begin-named _ _ _ _ _ _ c.if-set-ne-LENGTH.false c.parameters_of-p.ensures
    (call_kept _ _ _ (held c.read_verifier-s.result) _ _ _ c.if-session-ne-VERIFIER_SIZE.false c.read_verifier-s.ensures c.start-answer.ensures c.keep.ensures)
