-- The test of the run count decides, then the test of the set.
use Rattle.std.proofs.Common.{sym, ◌∙◌}
use Rattle.parameters.specs.declared.Parameters.{Parameters}
use Rattle.layout.specs.Runs.{outputs_length}
use Rattle.layout.specs.Runs.Laws.{runs-within}
use Rattle.capi.specs.Sizes.Laws.{within-length, within-limits, sized-not, sized-so, runs-not, runs_so}
use Rattle.capi.proofs.sizes.unlock_extract_size.Goals as goal

pub returns-then-not-runs_within : goal.returns-then-not-runs_within
returns-then-not-runs_within c = runs-not _ c.args.runs (λ (q : Parameters). outputs_length q c.args.runs) (sym c.runs_within.ensures ∙ c.if-not-runs_within.true)

pub returns-then-not-set_within : goal.returns-then-not-set_within
returns-then-not-set_within c = runs_so _ c.args.runs (λ (q : Parameters). outputs_length q c.args.runs) _ (sym c.runs_within.ensures ∙ c.if-not-runs_within.false)
    (sized-not _ (λ (q : Parameters). outputs_length q c.args.runs) (sym c.set_within.ensures ∙ c.if-not-set_within.true))

pub parameters_of-requires : goal.parameters_of-requires
parameters_of-requires c = within-length _ (sym c.set_within.ensures ∙ c.if-not-set_within.false)

pub outputs_length-requires : goal.outputs_length-requires
outputs_length-requires c = (
  rw c.parameters_of.ensures (within-limits _ (sym c.set_within.ensures ∙ c.if-not-set_within.false)),
  (runs-within _ (sym c.runs_within.ensures ∙ c.if-not-runs_within.false)).most,
)

pub returns : goal.returns
returns c = runs_so _ c.args.runs (λ (q : Parameters). outputs_length q c.args.runs) _ (sym c.runs_within.ensures ∙ c.if-not-runs_within.false)
    (sized-so _ (λ (q : Parameters). outputs_length q c.args.runs) _ _ (sym c.set_within.ensures ∙ c.if-not-set_within.false)
    c.parameters_of.ensures c.outputs_length.ensures)
