-- The call on the session read, and its outcome kept (`call_kept`).
use Rattle.std.proofs.Common.{refl}
use Rattle.verifier.specs.Held.{held}
use Rattle.capi.specs.Verifier.Laws.{call-misfit, call_kept, kept_small, leaf-within}
use Rattle.capi.proofs.verifying.unlock_verifier_leaf.Goals as goal

pub returns-then-session-ne-VERIFIER_SIZE : goal.returns-then-session-ne-VERIFIER_SIZE
returns-then-session-ne-VERIFIER_SIZE c = call-misfit _ _ _ _ refl c.if-session-ne-VERIFIER_SIZE.true

pub keep-requires : goal.keep-requires
keep-requires c = (c.if-session-ne-VERIFIER_SIZE.false, kept_small _ _ c.take_leaf-answer.ensures (leaf-within _ _))

pub returns : goal.returns
returns c = call_kept _ _ _ (held c.read_verifier-s.result) _ _ _ c.if-session-ne-VERIFIER_SIZE.false c.read_verifier-s.ensures c.take_leaf-answer.ensures
    c.keep.ensures
