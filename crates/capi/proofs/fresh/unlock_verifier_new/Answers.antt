-- The bytes of a fresh session.
use Rattle.std.proofs.Common.{List, ap, ℕ, ◌∙◌}
use Rattle.stored.specs.Verifier.{verifier_size, verifier_bytes}
use Rattle.stored.proofs.Laws.Verifier.{fresh-small}
use Rattle.capi.specs.Session.{kept}
use Rattle.stored.proofs.Laws.Buffer.{fits_not, fits-so}
use Rattle.capi.proofs.fresh.unlock_verifier_new.Goals as goal

pub returns-then-session-ne-VERIFIER_SIZE : goal.returns-then-session-ne-VERIFIER_SIZE
returns-then-session-ne-VERIFIER_SIZE c = fits_not _ _ _ _ c.if-session-ne-VERIFIER_SIZE.true

pub write_verifier-requires : goal.write_verifier-requires
write_verifier-requires c = (c.if-session-ne-VERIFIER_SIZE.false, fresh-small _ c.fresh-s.ensures)

pub returns : goal.returns
returns c = let whole = c.if-session-ne-VERIFIER_SIZE.false in
    ap (λ (l : List ℕ). kept 0 l) (c.write_verifier.ensures ∙ ap verifier_bytes c.fresh-s.ensures)
    ∙ fits-so _ verifier_size _ _ whole
