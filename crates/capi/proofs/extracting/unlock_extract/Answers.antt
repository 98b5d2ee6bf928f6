-- The count of the numbers decides; then the number of what the extractor answers.
use Rattle.capi.specs.Extract.Laws.{extract-unnamed, extract-given}
use Rattle.capi.proofs.extracting.unlock_extract.Goals as goal

pub returns-then-set-ne-LENGTH : goal.returns-then-set-ne-LENGTH
returns-then-set-ne-LENGTH c = extract-unnamed _ _ _ _ _ _ _ c.if-set-ne-LENGTH.true

pub returns : goal.returns
returns c = extract-given _ _ _ _ _ _ _ _ _ _ c.if-set-ne-LENGTH.false c.parameters_of-p.ensures c.extract-e.ensures c.number.ensures
