-- What document 01 says of the extractor's call.
--
-- early_conditions      the conditions of the numbers that stand before 5: 1, 2, 14, 4, 8, 9
-- or_then n n'          n, or n' where n is 0
-- expected_number       'in the extractor 5, 6, 7 of the first opening come before those of the second'
-- shown f              'The first unequal pair is the answer', 'output untouched. Otherwise the output holds' the states 'and the answer names'
--                      the axis
-- expected             'A refused call writes no output'; 'Once all checks that stand before 5 in the order are past, the named length of the work
--                      area ends as zeros, accepted or not; before that it is untouched'
use Rattle.std.specs.Prelude.{◌&&◌, not, cond, List, [], ◌∷◌, ◌++◌, ℕ, eqb}
use Rattle.lists.specs.Zeroed.{zeroed}
use Rattle.lists.specs.Equal.{eq_list}
use Rattle.lists.specs.Checks.{all_true}
use Rattle.answers.specs.Order.{Conditions, answer_of}
use Rattle.parameters.specs.declared.Parameters.{Parameters}
use Rattle.parameters.specs.Limits.{within_limits}
use Rattle.layout.specs.Layout.{work_length}
use Rattle.layout.specs.Runs.{runs_within}
use Rattle.exchange.specs.Values.{Key}
use Rattle.runs.specs.Points.{distinct_points}
use Rattle.runs.specs.Opening.{Transcript}
use Rattle.runs.specs.Extractor.{Finding, unequal, states, extract}
use Rattle.calls.specs.Lengths.{leaves_below}
use Rattle.calls.specs.Judging.{opening_conditions, judged}
use Rattle.calls.specs.Extractor.{extract_lengths, Outcome, refused, pair, filled}

abbrev pub or_then : ℕ → ℕ → ℕ
or_then n n' = cond (eqb n 0) n' n

module _ (hash : List ℕ → ℕ → List ℕ) (p : Parameters) (runs : ℕ) (t t' : Transcript) (key : Key) (work out : List ℕ) where
  unfoldable pub early_conditions : Conditions
  early_conditions =
      (1, not (within_limits p && runs_within runs))
      ∷ (2, not (all_true (extract_lengths hash p runs t t' key work out)))
      ∷ (14, not (distinct_points p runs t.message2 && distinct_points p runs t'.message2))
      ∷ (4, not (leaves_below p t.leaves && leaves_below p t'.leaves))
      ∷ (8, not (eq_list t.message1 t'.message1 && (eq_list t.message2 t'.message2 && eq_list t.message3 t'.message3)))
      ∷ (9, eq_list t.leaves t'.leaves)
      ∷ []

  unfoldable pub expected_number : ℕ
  expected_number =
      or_then (answer_of (early_conditions ++ opening_conditions hash p runs t key)) (answer_of (opening_conditions hash p runs t' key))

  unfoldable pub shown : Finding → Outcome
  shown (unequal run layer number) = record { answer = pair run layer number; out = out; work = zeroed (work_length p) work }
  shown (states run axis s) = record { answer = filled run axis; out = s; work = zeroed (work_length p) work }

  unfoldable pub expected : Outcome
  expected =
      cond (eqb expected_number 0) (shown (extract hash p runs key t t' out))
      (record { answer = refused expected_number; out = out; work = cond (judged expected_number) (zeroed (work_length p) work) work })
