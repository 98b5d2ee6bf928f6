-- The count of the numbers decides, then the limits of the parameters that they name.
use Rattle.std.proofs.Common.{◌∙◌}
use Rattle.parameters.specs.Limits.{within_limits}
use Rattle.capi.specs.Set.Laws.{set-not, set_so}
use Rattle.capi.proofs.sizes.set_within.Goals as goal

pub returns-then-set-ne-LENGTH : goal.returns-then-set-ne-LENGTH
returns-then-set-ne-LENGTH c = set-not _ within_limits _ c.if-set-ne-LENGTH.true

pub returns : goal.returns
returns c = c.within_limits.ensures ∙ set_so _ within_limits _ _ c.if-set-ne-LENGTH.false c.parameters_of.ensures
