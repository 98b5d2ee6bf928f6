-- What the runs so far give.
--
-- nothing            before the first run
-- in_run e d          the unequal pair of run e, if there is one
-- better_of b e j     one run more, run e, that gives j
use Rattle.std.specs.Prelude.{ℕ, Option, None, Ok}
use Rattle.std.specs.Option.{option_map, option_or}
use Rattle.std.specs.Result.{result_and}
use Rattle.extractor.specs.declared.best.Best.{Best}
use Rattle.extractor.specs.declared.findings.Difference.{Difference}
use Rattle.extractor.specs.declared.run.Judgement.{Judgement}
pub mod Laws

abbrev pub nothing : Best
nothing = record { second = Ok tt; unequal = None }

abbrev pub in_run : ℕ → Option Difference → Option (ℕ × Difference)
in_run e = option_map (λ d. (e, d))

unfoldable pub better_of : Best → ℕ → Judgement → Best
better_of b e j = record { second = result_and b.second j.second; unequal = option_or b.unequal (in_run e j.difference) }
