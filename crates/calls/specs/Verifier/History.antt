-- What document 01 says of a verifier's call after the calls that came before, told by these calls and the numbers that they got,
-- never by what a session holds.
--
-- Begin, Call            a call with its arguments; the opening with what its work area holds
-- Called, outcome s c    the call on a session: number, session, and for the opening the work area
-- after cs               the session after the calls cs from a fresh one; the latest call stands first
-- Made, made cs          calls with the numbers that they got; those of cs
-- carried_out m           the number is 0
-- last_begin h            the last begin carried out
-- points_since, response_since, leaf_since   message 2, message 3 and the leaves of the call of that kind carried out since then
-- opened_since h          was an opening judged since then? Accepted, 5 and 7 'close the verifier'
-- of_exchange h m5 d f    f of the last begin's parameters and run count and of the exchange that these calls' messages and message 5 are
-- conditions h c         the conditions of document 01's numbers; the parameters are those of the last begin
-- area h                 the named length of the work area
-- Seen, seen o           number and work area of a call
-- expected h c           'Once all checks that stand before 5 in the order are past, the named length of the work area ends as zeros, accepted
--                        or not; before that it is untouched'
use Rattle.std.specs.Prelude.{Bool, true, false, ◌&&◌, ◌||◌, not, cond, List, [], ◌∷◌, ℕ, eqb, length}
use Rattle.std.proofs.Math.Option.{Option, none, some}
use Rattle.lists.specs.Zeroed.{zeroed}
use Rattle.lists.specs.Checks.{all_true}
use Rattle.answers.specs.Order.{Conditions, answer_of}
use Rattle.parameters.specs.declared.Parameters.{Parameters}
use Rattle.parameters.specs.Limits.{within_limits}
use Rattle.layout.specs.Layout.{work_length}
use Rattle.layout.specs.Runs.{runs_within, message1_length, messages2_length, messages3_length}
use Rattle.exchange.specs.Values.{Key}
use Rattle.runs.specs.Points.{distinct_points}
use Rattle.runs.specs.Opening.{Transcript, transcript}
use Rattle.calls.specs.Lengths.{opening_lengths, leaves_below}
use Rattle.calls.specs.Judging.{opening_conditions, judged}
use Rattle.calls.specs.Held.{is_some, or_else, told}
use Rattle.calls.specs.Verifier as verifier
use Rattle.calls.specs.Verifier.{Verifier}

-- ---- calls

pub record Begin : Type 0 where
  pub parameters : Parameters
  pub runs : ℕ
  pub message1 : List ℕ

pub data Call : Type 0 where
  begin_call : Begin → Call
  points_call : List ℕ → Call
  response_call : List ℕ → Call
  leaf_call : List ℕ → Call
  -- message 5, matrix and y, work area
  opening_call : List ℕ → Key → List ℕ → Call

abbrev pub lent_work : Call → List ℕ
lent_work (begin_call b) = []
lent_work (points_call m2) = []
lent_work (response_call m3) = []
lent_work (leaf_call is) = []
lent_work (opening_call m5 key work) = work

pub record Called : Type 0 where
  pub answer : ℕ
  pub verifier : Verifier
  pub work : List ℕ

pub record Made : Type 0 where
  pub call : Call
  pub number : ℕ

-- a call without a work area
abbrev plain : verifier.Outcome → Called
plain o = record { answer = o.answer; verifier = o.verifier; work = [] }

abbrev judging : verifier.Judged → Called
judging o = record { answer = o.answer; verifier = o.verifier; work = o.work }

module _ (hash : List ℕ → ℕ → List ℕ) where
  unfoldable pub outcome : Verifier → Call → Called
  outcome s (begin_call b) = plain (verifier.begin s b.parameters b.runs b.message1)
  outcome s (points_call m2) = plain (verifier.points s m2)
  outcome s (response_call m3) = plain (verifier.response s m3)
  outcome s (leaf_call is) = plain (verifier.leaf s is)
  outcome s (opening_call m5 key work) = judging (verifier.opening hash s m5 key work)

  unfoldable pub after : List Call → Verifier
  after [] = verifier.fresh
  after (c ∷ cs) = (outcome (after cs) c).verifier

  unfoldable pub made : List Call → List Made
  made [] = []
  made (c ∷ cs) = record { call = c; number = (outcome (after cs) c).answer } ∷ made cs

-- ---- what the calls tell

abbrev pub begin_in : Call → Option Begin
begin_in (begin_call b) = some b
begin_in (points_call m2) = none
begin_in (response_call m3) = none
begin_in (leaf_call is) = none
begin_in (opening_call m5 key work) = none

abbrev pub points_in : Call → Option (List ℕ)
points_in (begin_call b) = none
points_in (points_call m2) = some m2
points_in (response_call m3) = none
points_in (leaf_call is) = none
points_in (opening_call m5 key work) = none

abbrev pub response_in : Call → Option (List ℕ)
response_in (begin_call b) = none
response_in (points_call m2) = none
response_in (response_call m3) = some m3
response_in (leaf_call is) = none
response_in (opening_call m5 key work) = none

abbrev pub leaf_in : Call → Option (List ℕ)
leaf_in (begin_call b) = none
leaf_in (points_call m2) = none
leaf_in (response_call m3) = none
leaf_in (leaf_call is) = some is
leaf_in (opening_call m5 key work) = none

abbrev pub opening_in : Call → Bool
opening_in (begin_call b) = false
opening_in (points_call m2) = false
opening_in (response_call m3) = false
opening_in (leaf_call is) = false
opening_in (opening_call m5 key work) = true

abbrev pub carried_out : Made → Bool
carried_out m = eqb m.number 0

unfoldable pub begun : Made → Option Begin
begun m = cond (carried_out m) (begin_in m.call) none

unfoldable pub pointed : Made → Option (List ℕ)
pointed m = cond (carried_out m) (points_in m.call) none

unfoldable pub responded : Made → Option (List ℕ)
responded m = cond (carried_out m) (response_in m.call) none

unfoldable pub chosen : Made → Option (List ℕ)
chosen m = cond (carried_out m) (leaf_in m.call) none

unfoldable pub opened : Made → Bool
opened m = judged m.number && opening_in m.call

unfoldable pub last_begin : List Made → Option Begin
last_begin [] = none
last_begin (m ∷ h) = or_else (begun m) (last_begin h)

unfoldable pub points_since : List Made → Option (List ℕ)
points_since [] = none
points_since (m ∷ h) = cond (is_some (begun m)) none (or_else (pointed m) (points_since h))

unfoldable pub response_since : List Made → Option (List ℕ)
response_since [] = none
response_since (m ∷ h) = cond (is_some (begun m)) none (or_else (responded m) (response_since h))

unfoldable pub leaf_since : List Made → Option (List ℕ)
leaf_since [] = none
leaf_since (m ∷ h) = cond (is_some (begun m)) none (or_else (chosen m) (leaf_since h))

unfoldable pub opened_since : List Made → Bool
opened_since [] = false
opened_since (m ∷ h) = cond (is_some (begun m)) false (opened m || opened_since h)

-- ---- the number

unfoldable pub of_exchange : {A : Type 0} → List Made → List ℕ → A → (Parameters → ℕ → Transcript → A) → A
of_exchange h m5 d f =
    told (last_begin h) d
    (λ b. told (points_since h) d
    (λ m2. told (response_since h) d
    (λ m3. told (leaf_since h) d
    (λ is. f b.parameters b.runs (transcript b.message1 m2 m3 is m5)))))

unfoldable pub conditions : (List ℕ → ℕ → List ℕ) → List Made → Call → Conditions
conditions hash h (begin_call b) =
    (1, not (within_limits b.parameters && runs_within b.runs))
    ∷ (2, not (eqb (length b.message1) (message1_length b.runs)))
    ∷ []
conditions hash h (points_call m2) =
    (12, opened_since h)
    ∷ (11, not (is_some (last_begin h)) || is_some (points_since h))
    ∷ told (last_begin h) []
    (λ b. (2, not (eqb (length m2) (messages2_length b.parameters b.runs))) ∷ (14, not (distinct_points b.parameters b.runs m2)) ∷ [])
conditions hash h (response_call m3) =
    (12, opened_since h)
    ∷ (11, not (is_some (points_since h)) || is_some (response_since h))
    ∷ told (last_begin h) [] (λ b. (2, not (eqb (length m3) (messages3_length b.runs))) ∷ [])
conditions hash h (leaf_call is) =
    (12, opened_since h)
    ∷ (11, not (is_some (response_since h)) || is_some (leaf_since h))
    ∷ told (last_begin h) [] (λ b. (2, not (eqb (length is) b.runs)) ∷ (4, not (leaves_below b.parameters is)) ∷ [])
conditions hash h (opening_call m5 key work) =
    (12, opened_since h)
    ∷ (11, not (is_some (leaf_since h)))
    ∷ of_exchange h m5 []
    (λ p runs t. (2, not (all_true (opening_lengths p t.leaves m5 key work))) ∷ opening_conditions hash p runs t key)

-- ---- what the call gives

unfoldable pub area : List Made → ℕ
area h = told (last_begin h) 0 (λ b. work_length b.parameters)

pub record Seen : Type 0 where
  pub number : ℕ
  pub work : List ℕ

abbrev pub seen : Called → Seen
seen o = record { number = o.answer; work = o.work }

-- of the calls without a work area, 'judged' says nothing
unfoldable pub expected : (List ℕ → ℕ → List ℕ) → List Made → Call → Seen
expected hash h c = go (answer_of (conditions hash h c))
  where
    go : ℕ → Seen
    go n = record { number = n; work = cond (opening_in c && judged n) (zeroed (area h) (lent_work c)) (lent_work c) }
