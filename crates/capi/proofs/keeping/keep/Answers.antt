-- A refusal leaves the buffer; a call that was carried out writes the session.
use Rattle.std.proofs.Common.{ap, sym, ◌∙◌}
use Rattle.answers.specs.Number.{answer_number}
use Rattle.stored.proofs.Laws.Buffer.{refused-kept, done-kept}
use Rattle.capi.proofs.keeping.keep.Goals as goal

pub write-requires : goal.write-requires
write-requires g c = (c.requires.0, c.requires.1 (ap answer_number c.in-Ok.is))

pub returns-in-Ok : goal.returns-in-Ok
returns-in-Ok g c = done-kept _ _ _ _ c.in-Ok.is c.write.ensures

pub returns-in-Err : goal.returns-in-Err
returns-in-Err g c = refused-kept _ _ _ _ _ (c.from.ensures ∙ sym (ap answer_number c.in-Err.is)) c.in-Err.is
