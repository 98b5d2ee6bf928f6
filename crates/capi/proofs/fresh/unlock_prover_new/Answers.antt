-- The bytes of a fresh session.
use Rattle.std.proofs.Common.{List, ap, ℕ, ◌∙◌}
use Rattle.stored.specs.Prover.{prover_size, prover_bytes}
use Rattle.stored.proofs.Laws.Prover.{fresh-small}
use Rattle.capi.specs.Session.{kept}
use Rattle.stored.proofs.Laws.Buffer.{fits_not, fits-so}
use Rattle.capi.proofs.fresh.unlock_prover_new.Goals as goal

pub returns-then-session-ne-PROVER_SIZE : goal.returns-then-session-ne-PROVER_SIZE
returns-then-session-ne-PROVER_SIZE c = fits_not _ _ _ _ c.if-session-ne-PROVER_SIZE.true

pub write_prover-requires : goal.write_prover-requires
write_prover-requires c = (c.if-session-ne-PROVER_SIZE.false, fresh-small _ c.fresh-s.ensures)

pub returns : goal.returns
returns c = let whole = c.if-session-ne-PROVER_SIZE.false in
    ap (λ (l : List ℕ). kept 0 l) (c.write_prover.ensures ∙ ap prover_bytes c.fresh-s.ensures)
    ∙ fits-so _ prover_size _ _ whole
