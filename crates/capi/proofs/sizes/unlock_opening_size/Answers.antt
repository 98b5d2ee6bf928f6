-- The test of the run count decides, then the test of the set.
use Rattle.std.proofs.Common.{List, length, sym, ℕ, ◌∙◌}
use Rattle.parameters.specs.declared.Parameters.{Parameters}
use Rattle.layout.specs.Runs.{messages5_length}
use Rattle.layout.specs.Runs.Laws.{runs-within}
use Rattle.capi.specs.Sizes.Laws.{within-length, within-limits, sized-not, sized-so, runs-not, runs_so}
use Rattle.capi.proofs.sizes.unlock_opening_size.Goals as goal

abbrev size : List ℕ → Parameters → ℕ
size is q = messages5_length q is

pub returns-then-not-runs_within : goal.returns-then-not-runs_within
returns-then-not-runs_within c = runs-not _ (length c.args.leaves.now) (size c.args.leaves.now) (sym c.runs_within.ensures ∙ c.if-not-runs_within.true)

pub returns-then-not-set_within : goal.returns-then-not-set_within
returns-then-not-set_within c = runs_so _ (length c.args.leaves.now) (size c.args.leaves.now) _ (sym c.runs_within.ensures ∙ c.if-not-runs_within.false)
    (sized-not _ (size c.args.leaves.now) (sym c.set_within.ensures ∙ c.if-not-set_within.true))

pub parameters_of-requires : goal.parameters_of-requires
parameters_of-requires c = within-length _ (sym c.set_within.ensures ∙ c.if-not-set_within.false)

pub messages5_length-requires : goal.messages5_length-requires
messages5_length-requires c = (
  rw c.parameters_of.ensures (within-limits _ (sym c.set_within.ensures ∙ c.if-not-set_within.false)),
  (runs-within _ (sym c.runs_within.ensures ∙ c.if-not-runs_within.false)).most,
)

pub returns : goal.returns
returns c = runs_so _ (length c.args.leaves.now) (size c.args.leaves.now) _ (sym c.runs_within.ensures ∙ c.if-not-runs_within.false)
    (sized-so _ (size c.args.leaves.now) _ _ (sym c.set_within.ensures ∙ c.if-not-set_within.false) c.parameters_of.ensures
    c.messages5_length.ensures)
