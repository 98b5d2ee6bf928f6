-- The lowest run whose hidden leaves differ.
--
-- leaves_differ is js e   those of run e do
-- lowest_in is js      that of two messages 4, or the run count where none does
-- LowestAsked         messages 4 of one length, at most that of 32 runs
-- extracted_at is js e   the answer where the output is filled and e is this run: the run, and its axis
-- extracted_in is js   the same where there is such a run
-- extracted-some       there is one
use Rattle.std.specs.Prelude.{◌≡◌, Bool, not, List, ℕ, ◌≤◌, ◌<◌, eqb, length, Option, Some}
use Rattle.std.specs.Option.{option_map}
use Rattle.std.proofs.Common.{ap}
use Rattle.layout.specs.Maxima.{most_runs}
use Rattle.exchange.specs.Sequences.{least}
use Rattle.runs.specs.Messages.{leaf_at}
use Rattle.extractor.specs.declared.findings.Extraction.{Extraction}
use Rattle.extractor.specs.declared.findings.Extraction.TheVariants.{Extracted}
use Rattle.extractor.specs.Comparison.{axis_of}
use Rattle.extractor.specs.Head.{first_below, first_below-inside}

abbrev pub leaves_differ : List ℕ → List ℕ → ℕ → Bool
leaves_differ is js e = not (eqb (leaf_at is e) (leaf_at js e))

unfoldable pub lowest_in : List ℕ → List ℕ → ℕ
lowest_in is js = least (leaves_differ is js) (length is)

pub record LowestAsked (is js : List ℕ) : Type 0 where
  pub same : length is ≡ length js
  pub few : length is ≤ most_runs

abbrev pub extracted_at : List ℕ → List ℕ → ℕ → Extraction
extracted_at is js e = Extracted e (axis_of (leaf_at is e) (leaf_at js e))

abbrev pub extracted_in : List ℕ → List ℕ → Option Extraction
extracted_in is js = option_map (extracted_at is js) (first_below (leaves_differ is js) (length is))

pub extracted-some : (is js : List ℕ) → lowest_in is js < length is → extracted_in is js ≡ Some (extracted_at is js (lowest_in is js))
unfolding lowest_in
extracted-some is js l = ap (option_map (extracted_at is js)) (first_below-inside (leaves_differ is js) (length is) l)
