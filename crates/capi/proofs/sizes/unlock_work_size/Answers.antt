-- The test of the set decides.
use Rattle.std.proofs.Common.{sym, ◌∙◌}
use Rattle.layout.specs.Layout.{work_length}
use Rattle.capi.specs.Sizes.Laws.{within-length, within-limits, sized-not, sized-so}
use Rattle.capi.proofs.sizes.unlock_work_size.Goals as goal

pub returns-then-not-set_within : goal.returns-then-not-set_within
returns-then-not-set_within c = sized-not _ work_length (sym c.set_within.ensures ∙ c.if-not-set_within.true)

pub parameters_of-requires : goal.parameters_of-requires
parameters_of-requires c = within-length _ (sym c.set_within.ensures ∙ c.if-not-set_within.false)

pub work_length-requires : goal.work_length-requires
work_length-requires c = rw c.parameters_of.ensures (within-limits _ (sym c.set_within.ensures ∙ c.if-not-set_within.false))

pub returns : goal.returns
returns c = sized-so _ work_length _ _ (sym c.set_within.ensures ∙ c.if-not-set_within.false) c.parameters_of.ensures c.work_length.ensures
