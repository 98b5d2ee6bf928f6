-- The shipped set is within the limits, and so is the run count.
use Rattle.std.proofs.Common.{ap, sym, ◌∙◌}
use Rattle.parameters.specs.Limits.{limits, within_limits}
use Rattle.parameters.specs.Limits.Laws.{test-within}
use Rattle.unlock.specs.Count.Laws.{runs_done}
use Rattle.unlock.proofs.on_default_key.Goals as goal

pub exchange-requires : goal.exchange-requires
unfolding limits within_limits
exchange-requires g c =
    (test-within c.shipped_set-p.result (ap within_limits c.shipped_set-p.ensures), (runs_done _ _ (sym c.with_runs.ensures ∙ c.in_default.is)).1.most)
