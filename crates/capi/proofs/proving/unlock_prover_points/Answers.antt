-- The call on the session read, and its outcome kept (`call_kept`).
use Rattle.std.proofs.Common.{refl}
use Rattle.prover.specs.Held.{held}
use Rattle.capi.specs.Prover.Laws.{call-misfit, call_kept, kept_small, points-within}
use Rattle.capi.proofs.proving.unlock_prover_points.Goals as goal

pub returns-then-session-ne-PROVER_SIZE : goal.returns-then-session-ne-PROVER_SIZE
returns-then-session-ne-PROVER_SIZE c = call-misfit _ _ _ _ _ _ refl c.if-session-ne-PROVER_SIZE.true

pub keep-requires : goal.keep-requires
keep-requires c = (c.if-session-ne-PROVER_SIZE.false, kept_small _ _ c.take_points-answer.ensures (points-within _ _ _ _ _ _))

pub returns : goal.returns
returns c = call_kept _ _ _ _ _ (held c.read_prover-s.result) _ _ _ c.if-session-ne-PROVER_SIZE.false c.read_prover-s.ensures
    c.take_points-answer.ensures c.keep.ensures
