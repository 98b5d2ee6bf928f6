-- The count of the numbers decides (`begin-unnamed`, `begin-named`); then the call on the session read, and its outcome kept (`call_kept`).
use Rattle.prover.specs.Held.{held}
use Rattle.capi.specs.Prover.Laws.{call-misfit, call_kept, kept_small, begin-within, begin-unnamed, begin-named}
use Rattle.capi.proofs.proving.unlock_prover_begin.Goals as goal

pub returns-then-set-ne-LENGTH : goal.returns-then-set-ne-LENGTH
returns-then-set-ne-LENGTH c = begin-unnamed _ _ _ _ _ _ _ _ _ c.if-set-ne-LENGTH.true

pub returns-then-session-ne-PROVER_SIZE : goal.returns-then-session-ne-PROVER_SIZE
returns-then-session-ne-PROVER_SIZE c = begin-named _ _ _ _ _ _ _ _ _ _ _ c.if-set-ne-LENGTH.false c.parameters_of-p.ensures (call-misfit _ _ _ _ _ _ c.misfit_number.ensures c.if-session-ne-PROVER_SIZE.true)

pub keep-requires : goal.keep-requires
keep-requires c = (c.if-session-ne-PROVER_SIZE.false, kept_small _ _ c.start-answer.ensures (begin-within _ _ _ _ _ _ _ _ _ _))

pub returns : goal.returns
returns c = begin-named _ _ _ _ _ _ _ _ _ _ _ c.if-set-ne-LENGTH.false c.parameters_of-p.ensures
    (call_kept _ _ _ _ _ (held c.read_prover-s.result) _ _ _ c.if-session-ne-PROVER_SIZE.false c.read_prover-s.ensures c.start-answer.ensures c.keep.ensures)
