-- The loop's invariant: the hidden leaves of the runs before this one agree.
use Rattle.std.proofs.Common.{false, ℕ, ◌<◌, ◌≡◌}
use Rattle.extractor.specs.Lowest.{leaves_differ}
use Rattle.extractor.proofs.lowest.lowest_run.Given as goal

abbrev pub invariant-loop-run : goal.invariant-loop-run
invariant-loop-run l = (k : ℕ) → k < l.run → leaves_differ l.first4 l.second4 k ≡ false
