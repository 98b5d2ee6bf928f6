-- Lengths that a caller asks for.
--
-- set_within ns          ns names parameters within their limits
-- sized ns f            f of the parameters that ns names; 0 where it names none, or a parameter is outside its limits
-- work_size ns           the named length of the work area
-- sized_runs ns n f      the same for n runs; 0 where their count is outside its limits, too
-- opening_size ns is     the length of message 5, from the hidden leaf of each run
-- extract_size ns n      the length of the extractor's output for n runs
use Rattle.std.specs.Prelude.{Bool, false, cond, List, ℕ, length}
use Rattle.parameters.specs.declared.Parameters.{Parameters}
use Rattle.parameters.specs.Limits.{within_limits}
use Rattle.parameters.specs.Set.{parameters_of}
use Rattle.layout.specs.Layout.{work_length}
use Rattle.layout.specs.Runs.{runs_within, messages5_length, outputs_length}
use Rattle.capi.specs.Set.{with_set}
pub mod Laws

abbrev pub set_within : List ℕ → Bool
set_within ns = with_set ns within_limits false

abbrev pub sized : List ℕ → (Parameters → ℕ) → ℕ
sized ns f = cond (set_within ns) (f (parameters_of ns)) 0

abbrev pub work_size : List ℕ → ℕ
work_size ns = sized ns work_length

abbrev pub sized_runs : List ℕ → ℕ → (Parameters → ℕ) → ℕ
sized_runs ns n f = cond (runs_within n) (sized ns f) 0

abbrev pub opening_size : List ℕ → List ℕ → ℕ
opening_size ns is = sized_runs ns (length is) (λ p. messages5_length p is)

abbrev pub extract_size : List ℕ → ℕ → ℕ
extract_size ns n = sized_runs ns n (λ p. outputs_length p n)
