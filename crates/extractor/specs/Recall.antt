-- The states of a run's leaves, from the messages.
--
-- prefix_of m1 e         the prefix of run e
-- PrefixAsked           message 1 reaches its salt, and there is room for the prefix
-- recalled p pre place m5   the states of all leaves but the hidden one
-- StatesAsked           what their making asks
-- RecallAsked           what it asks of both openings
-- Holds                 the fronts of the halves hold the states of both openings
use Rattle.std.specs.Prelude.{◌≡◌, List, ℕ, ◌≤◌, length, take, drop}
use Rattle.parameters.specs.declared.Parameters.{Parameters}
use Rattle.parameters.specs.Limits.{Within}
use Rattle.layout.specs.Layout.{states_length}
use Rattle.layout.specs.Maxima.{most_opened}
use Rattle.runs.specs.Run.{run_prefix}
use Rattle.leaves.specs.States.{states_from}
use Rattle.reader.specs.Message5.{siblings_in}
use Rattle.openings.specs.Parts.{states_in}
use Rattle.extractor.specs.declared.pairs.Place.{Place}
use Rattle.extractor.specs.declared.pairs.Pair.{Pair}
use Rattle.extractor.specs.Pairs.{message_in, Lies}
use Rattle.extractor.specs.Run.{most_openings}
pub mod Laws

abbrev pub prefix_of : List ℕ → ℕ → List ℕ
prefix_of m1 e = run_prefix (take 32 m1) e

pub record PrefixAsked (m1 out : List ℕ) : Type 0 where
  pub reaches : 32 ≤ length m1
  pub room : length out ≡ 33

unfoldable pub recalled : Parameters → List ℕ → Place → List ℕ → List ℕ
recalled p prefix place m5 = states_from p prefix place.leaf (siblings_in p (message_in place m5))

pub record StatesAsked (p : Parameters) (place : Place) (m5 opened : List ℕ) : Type 0 where
  pub within : Within p
  pub lies : Lies p place m5
  pub room : states_length p ≤ length opened

abbrev pub StatesMade : Parameters → List ℕ → Place → List ℕ → List ℕ → Type 0
StatesMade p prefix place m5 opened = states_in p opened ≡ recalled p prefix place m5

pub record RecallAsked (pair : Pair) (m1 first5 second5 openings : List ℕ) : Type 0 where
  pub within : Within pair.p
  pub reaches : 32 ≤ length m1
  pub first : Lies pair.p pair.first first5
  pub second : Lies pair.p pair.second second5
  pub room : length openings ≡ most_openings

pub record Holds (pair : Pair) (prefix first5 second5 openings : List ℕ) : Type 0 where
  pub first : StatesMade pair.p prefix pair.first first5 openings
  pub second : StatesMade pair.p prefix pair.second second5 (drop most_opened openings)
