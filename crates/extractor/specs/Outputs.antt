-- The output of all runs.
--
-- part_in          the part of a run, from the states in the halves of a list; what stood there where the hidden leaves agree
-- part_of          the same from the messages
-- WriteAsked, RecalledAsked   what their writing asks
-- written         the parts of all runs
-- Written n       the parts of the runs from n on are written
-- EarlierAsked, OutputsAsked   what their writing asks; the states of the last run are held
-- Finishes        where the last part is written, all are then
use Rattle.std.specs.Prelude.{◌≡◌, cond, List, ℕ, ◌*◌, ◌-◌, ◌≤◌, ◌<◌, eqb, ltb, length, drop}
use Rattle.lists.specs.Part.{part}
use Rattle.parameters.specs.declared.Parameters.{Parameters}
use Rattle.parameters.specs.Limits.{Within}
use Rattle.layout.specs.Layout.{output_length}
use Rattle.layout.specs.Maxima.{most_opened, most_runs}
use Rattle.exchange.specs.Sequences.{joined}
use Rattle.reader.specs.Message5.{aux_in}
use Rattle.openings.specs.Parts.{states_in}
use Rattle.extractor.specs.declared.pairs.Pair.{Pair}
use Rattle.extractor.specs.Comparison.{output_of}
use Rattle.extractor.specs.Pairs.{message_in, Lies, place_at, pair_at}
use Rattle.extractor.specs.Run.{most_openings}
use Rattle.extractor.specs.Recall.{prefix_of, recalled, RecallAsked, Holds}
pub mod Exchange
pub mod Laws

unfoldable pub part_from : Pair → List ℕ → List ℕ → List ℕ → List ℕ → List ℕ → List ℕ
part_from pair first5 second5 states others out =
    cond (eqb pair.first.leaf pair.second.leaf) out
    (output_of pair.p pair.first.leaf states (aux_in pair.p (message_in pair.first first5)) others
    (aux_in pair.p (message_in pair.second second5)))

abbrev pub part_in : Pair → List ℕ → List ℕ → List ℕ → List ℕ → List ℕ
part_in pair first5 second5 openings = part_from pair first5 second5 (states_in pair.p openings) (states_in pair.p (drop most_opened openings))

abbrev pub part_of : Pair → List ℕ → List ℕ → List ℕ → List ℕ → List ℕ
part_of pair prefix first5 second5 =
    part_from pair first5 second5 (recalled pair.p prefix pair.first first5) (recalled pair.p prefix pair.second second5)

pub record WriteAsked (pair : Pair) (first5 second5 openings out : List ℕ) : Type 0 where
  pub within : Within pair.p
  pub first : Lies pair.p pair.first first5
  pub second : Lies pair.p pair.second second5
  pub held : length openings ≡ most_openings
  pub room : length out ≡ output_length pair.p

pub record RecalledAsked (pair : Pair) (m1 first5 second5 openings out : List ℕ) : Type 0 where
  pub recall : RecallAsked pair m1 first5 second5 openings
  pub room : length out ≡ output_length pair.p

module _ (p : Parameters) (m1 first4 first5 second4 second5 : List ℕ) where
  abbrev pub part_at : List ℕ → ℕ → List ℕ
  part_at out e = part_of (pair_at p first4 second4 e) (prefix_of m1 e) first5 second5 (part out (e * output_length p) (output_length p))

  unfoldable pub written : List ℕ → List ℕ
  written out = joined (part_at out) (length first4)

  -- of what stood in the output, the parts of the runs from n on are written
  pub record Written (out : List ℕ) (n : ℕ) (out' : List ℕ) : Type 0 where
    pub sized : length out' ≡ length first4 * output_length p
    pub parts : (e : ℕ) → e < length first4
        → part out' (e * output_length p) (output_length p) ≡ cond (ltb e n) (part out (e * output_length p) (output_length p)) (part_at out e)

  pub record EarlierAsked (openings out : List ℕ) : Type 0 where
    pub within : Within p
    pub reaches : 32 ≤ length m1
    pub some : 1 ≤ length first4
    pub few : length first4 ≤ most_runs
    pub same : length second4 ≡ length first4
    pub first : (e : ℕ) → e < length first4 → Lies p (place_at p first4 e) first5
    pub second : (e : ℕ) → e < length first4 → Lies p (place_at p second4 e) second5
    pub held : length openings ≡ most_openings
    pub room : length out ≡ length first4 * output_length p

  -- where the last part is written, all are then
  abbrev pub Finishes : List ℕ → List ℕ → Type 0
  Finishes out out' = (o : List ℕ) → Written o (length first4 - 1) out → out' ≡ written o

  pub record OutputsAsked (openings out : List ℕ) : Type 0 where
    pub asked : EarlierAsked openings out
    pub holds : Holds (pair_at p first4 second4 (length first4 - 1)) (prefix_of m1 (length first4 - 1)) first5 second5 openings
