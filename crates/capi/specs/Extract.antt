-- The extractor's call for C.
--
-- extract_number a      the number of a refusal as it stands; 65536·layer + 256·run + number for an unequal pair; 256·(run + 1) + axis where the
--                      output is filled
-- Outcome              number, output and work area
-- extract_after o       what the call's outcome o gives
-- extract_call          the call, at SHAKE256
-- extract_set           the call with a set: another count of numbers gives 2 before everything else, and nothing changes
use Rattle.std.specs.Prelude.{List, ℕ, ◌+◌, ◌*◌}
use Rattle.answers.specs.Number.{refusal_number}
use Rattle.answers.specs.declared.Refusal.TheVariants.{Length}
use Rattle.parameters.specs.declared.Parameters.{Parameters}
use Rattle.shake256.specs.Fips.{SHAKE256}
use Rattle.exchange.specs.Values.{Key}
use Rattle.runs.specs.Opening.{Transcript}
use Rattle.calls.specs.Extractor.{refused, pair, filled}
use Rattle.calls.specs.Extractor as extractor
use Rattle.capi.specs.Set.{with_set}
pub mod Laws

abbrev pub extract_number : extractor.Answer → ℕ
extract_number (refused n) = n
extract_number (pair run layer number) = 65536 * layer + 256 * run + number
extract_number (filled run axis) = 256 * (run + 1) + axis

pub record Outcome : Type 0 where
  pub number : ℕ
  pub out : List ℕ
  pub work : List ℕ

-- what a function returned and left in the lent slices
abbrev pub given : ℕ → List ℕ → List ℕ → Outcome
given n out work = record { number = n; out = out; work = work }

unfoldable pub extract_after : extractor.Outcome → Outcome
extract_after o = given (extract_number o.answer) o.out o.work

abbrev pub extract_call : Parameters → ℕ → Transcript → Transcript → Key → List ℕ → List ℕ → Outcome
extract_call p runs t t' key work out = extract_after (extractor.extraction SHAKE256 p runs t t' key work out)

abbrev pub extract_set : List ℕ → ℕ → Transcript → Transcript → Key → List ℕ → List ℕ → Outcome
extract_set ns runs t t' key work out = with_set ns (λ p. extract_call p runs t t' key work out) (given (refusal_number Length) out work)
