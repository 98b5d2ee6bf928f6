-- The extractor's call as a function on values.
--
-- extract_lengths          the lengths of all lent slices
-- same_statement           number 8: 'salt, h, points, multipliers or h' differ', of any run
-- both_distinct            number 14: of both exchanges, 'The points of a run must differ pairwise'
-- early_checks             the checks that stand before 5 in the order: 1, 2, 14, 4, 8, 9; 'number 9 now means that no run differs'
-- first, second           'in the extractor 5, 6, 7 of the first opening come before those of the second'
-- early                   what a check before 5 gives
-- found                   'The first unequal pair is the answer', 'output untouched'; otherwise the states
-- Answer                  document 01's number where the call is refused; run, layer and number of the first unequal pair; the lowest run that is
--                         extracted, and its axis
-- number_of a              the number, 0 where the call was carried out
-- Outcome                 answer, output and work area
-- extraction              the call
use Rattle.std.specs.Prelude.{Bool, ◌&&◌, not, List, [], ◌∷◌, ◌++◌, ℕ, eqb, length, Ok, Err}
use Rattle.lists.specs.Zeroed.{zeroed}
use Rattle.lists.specs.Equal.{eq_list}
use Rattle.lists.specs.Checks.{all_true}
use Rattle.answers.specs.Answer.{Answer as Checked}
use Rattle.answers.specs.Number.{refusal_number}
use Rattle.answers.specs.declared.Refusal.TheVariants.{Parameter, Length, Leaf, Exchange as Differs, SameLeaf, SamePoint}
use Rattle.answers.specs.Checks.{checks}
use Rattle.parameters.specs.declared.Parameters.{Parameters}
use Rattle.parameters.specs.Limits.{within_limits}
use Rattle.layout.specs.Layout.{work_length}
use Rattle.layout.specs.Runs.{runs_within, message1_length, messages2_length, messages3_length, messages5_length, outputs_length}
use Rattle.exchange.specs.Values.{Key}
use Rattle.runs.specs.Points.{distinct_points}
use Rattle.runs.specs.Opening.{Transcript, verdict}
use Rattle.runs.specs.Extractor.{Finding, unequal, states, extract}
use Rattle.calls.specs.Lengths.{key_lengths, leaves_below}
pub mod Expected

pub data Answer : Type 0 where
  refused : ℕ → Answer
  pair : ℕ → ℕ → ℕ → Answer
  filled : ℕ → ℕ → Answer

abbrev pub number_of : Answer → ℕ
number_of (refused n) = n
number_of (pair run layer number) = 0
number_of (filled run axis) = 0

pub record Outcome : Type 0 where
  pub answer : Answer
  pub out : List ℕ
  pub work : List ℕ

abbrev pub message_lengths : Parameters → ℕ → Transcript → List Bool
message_lengths p runs t =
    eqb (length t.message1) (message1_length runs) ∷ eqb (length t.message2) (messages2_length p runs)
    ∷ eqb (length t.message3) (messages3_length runs) ∷ eqb (length t.leaves) runs
    ∷ eqb (length t.message5) (messages5_length p t.leaves) ∷ []

module _ (hash : List ℕ → ℕ → List ℕ) (p : Parameters) (runs : ℕ) (t t' : Transcript) (key : Key) (work out : List ℕ) where
  unfoldable pub extract_lengths : List Bool
  extract_lengths =
      message_lengths p runs t ++ (message_lengths p runs t' ++ (key_lengths p key work ++ (eqb (length out) (outputs_length p runs) ∷ [])))

  unfoldable pub both_distinct : Bool
  both_distinct = distinct_points p runs t.message2 && distinct_points p runs t'.message2

  unfoldable pub same_statement : Bool
  same_statement = eq_list t.message1 t'.message1 && (eq_list t.message2 t'.message2 && eq_list t.message3 t'.message3)

  unfoldable pub early_checks : Checked
  early_checks =
      checks (
      (within_limits p && runs_within runs, Parameter)
      ∷ (all_true extract_lengths, Length)
      ∷ (both_distinct, SamePoint)
      ∷ (leaves_below p t.leaves && leaves_below p t'.leaves, Leaf)
      ∷ (same_statement, Differs)
      ∷ (not (eq_list t.leaves t'.leaves), SameLeaf)
      ∷ []
      )

  -- what the strings of two accepted openings give
  unfoldable pub found : Finding → Outcome
  found (unequal run layer number) = record { answer = pair run layer number; out = out; work = zeroed (work_length p) work }
  found (states run axis s) = record { answer = filled run axis; out = s; work = zeroed (work_length p) work }

  unfoldable pub second : Checked → Outcome
  second (Ok _) = found (extract hash p runs key t t' out)
  second (Err r) = record { answer = refused (refusal_number r); out = out; work = zeroed (work_length p) work }

  unfoldable pub first : Checked → Outcome
  first (Ok _) = second (verdict hash p runs t' key)
  first (Err r) = record { answer = refused (refusal_number r); out = out; work = zeroed (work_length p) work }

  unfoldable pub early : Checked → Outcome
  early (Ok _) = first (verdict hash p runs t key)
  early (Err r) = record { answer = refused (refusal_number r); out = out; work = work }

  unfoldable pub extraction : Outcome
  extraction = early early_checks
