-- The states are made again where they are needed (`held-part`).
use Rattle.std.proofs.Common.{eq-eqb, ◌∙◌}
use Rattle.extractor.specs.Outputs.{part_from}
use Rattle.extractor.specs.Outputs.Laws.{held-part}
use Rattle.extractor.proofs.outputs.write_recalled.Goals as goal

pub returns-then-pair : goal.returns-then-pair
unfolding part_from
returns-then-pair c = rw (eq-eqb _ _ c.if-pair.true)

pub returns : goal.returns
returns c = c.write_run.ensures ∙ held-part _ _ _ _ _ c.recall_run.ensures _
