-- What document 01 says of a prover's call after the calls that came before, told by these calls and the numbers that they got,
-- never by what a session holds.
--
-- Begin, Call            a call with its arguments and with what the lent slices hold
-- outcome s c            the call on a session
-- after cs               the session after the calls cs from a fresh one; the latest call stands first
-- Made, made cs          calls with the numbers that they got; those of cs
-- begun, pointed, opened what a call that was carried out was
-- last_begin h            the last begin carried out
-- points_since h          message 2 of the points call carried out since then
-- leaf_since h            was a leaf call carried out since then?
-- repeats o salt root    'salt and root both equal those of the exchange held'
-- conditions h c         the conditions of document 01's numbers; the parameters of points and leaf are those of the last begin
-- message h c            what a call that is carried out gives: message 1, 3 or 5
-- area h c               the named length of its work area
-- Seen, seen o           number, output and work area of a call
-- expected h c           'A refused call writes no output'; 'Once all checks .. are past, the named length of the work area ends as zeros ..;
--                        before that it is untouched'
use Rattle.std.specs.Prelude.{Bool, true, false, ◌&&◌, ◌||◌, not, cond, List, [], ◌∷◌, ℕ, eqb, leb}
use Rattle.std.proofs.Math.Option.{Option, none, some}
use Rattle.lists.specs.Zeroed.{zeroed}
use Rattle.lists.specs.Equal.{eq_list}
use Rattle.lists.specs.Checks.{all_true}
use Rattle.answers.specs.Order.{Conditions, answer_of}
use Rattle.parameters.specs.declared.Parameters.{Parameters}
use Rattle.parameters.specs.Limits.{within_limits}
use Rattle.relation.specs.Key.{weight_of, vector_of}
use Rattle.layout.specs.Layout.{work_length}
use Rattle.layout.specs.Runs.{runs_within}
use Rattle.exchange.specs.Values.{Key}
use Rattle.runs.specs.Messages.{message1, message3, message5}
use Rattle.runs.specs.Points.{distinct_points}
use Rattle.calls.specs.Lengths.{begin_lengths, points_lengths, leaf_lengths, leaves_below}
use Rattle.calls.specs.Held.{is_some, or_else, told}
use Rattle.calls.specs.Prover.{Prover, Outcome, fresh, begin, points, leaf}

-- ---- calls

pub record Begin : Type 0 where
  pub parameters : Parameters
  pub runs : ℕ
  pub x_a : List ℕ
  pub salt : List ℕ
  pub root : List ℕ
  pub key : Key

-- each with its work area and its output
pub data Call : Type 0 where
  begin_call : Begin → List ℕ → List ℕ → Call
  points_call : List ℕ → Key → List ℕ → List ℕ → Call
  leaf_call : List ℕ → Key → List ℕ → List ℕ → Call

abbrev pub lent_work : Call → List ℕ
lent_work (begin_call b work out) = work
lent_work (points_call m2 key work out) = work
lent_work (leaf_call is key work out) = work

abbrev pub lent_out : Call → List ℕ
lent_out (begin_call b work out) = out
lent_out (points_call m2 key work out) = out
lent_out (leaf_call is key work out) = out

pub record Made : Type 0 where
  pub call : Call
  pub number : ℕ

module _ (hash : List ℕ → ℕ → List ℕ) where
  unfoldable pub outcome : Prover → Call → Outcome
  outcome s (begin_call b work out) = begin hash s b.parameters b.runs b.x_a b.salt b.root b.key work out
  outcome s (points_call m2 key work out) = points hash s m2 key work out
  outcome s (leaf_call is key work out) = leaf hash s is key work out

  unfoldable pub after : List Call → Prover
  after [] = fresh
  after (c ∷ cs) = (outcome (after cs) c).prover

  unfoldable pub made : List Call → List Made
  made [] = []
  made (c ∷ cs) = record { call = c; number = (outcome (after cs) c).answer } ∷ made cs

-- ---- what the calls tell

abbrev pub begin_in : Call → Option Begin
begin_in (begin_call b work out) = some b
begin_in (points_call m2 key work out) = none
begin_in (leaf_call is key work out) = none

abbrev pub points_in : Call → Option (List ℕ)
points_in (begin_call b work out) = none
points_in (points_call m2 key work out) = some m2
points_in (leaf_call is key work out) = none

abbrev pub leaf_in : Call → Bool
leaf_in (begin_call b work out) = false
leaf_in (points_call m2 key work out) = false
leaf_in (leaf_call is key work out) = true

abbrev pub carried_out : Made → Bool
carried_out m = eqb m.number 0

unfoldable pub begun : Made → Option Begin
begun m = cond (carried_out m) (begin_in m.call) none

unfoldable pub pointed : Made → Option (List ℕ)
pointed m = cond (carried_out m) (points_in m.call) none

unfoldable pub opened : Made → Bool
opened m = carried_out m && leaf_in m.call

unfoldable pub last_begin : List Made → Option Begin
last_begin [] = none
last_begin (m ∷ h) = or_else (begun m) (last_begin h)

unfoldable pub points_since : List Made → Option (List ℕ)
points_since [] = none
points_since (m ∷ h) = cond (is_some (begun m)) none (or_else (pointed m) (points_since h))

unfoldable pub leaf_since : List Made → Bool
leaf_since [] = false
leaf_since (m ∷ h) = cond (is_some (begun m)) false (opened m || leaf_since h)

-- x of a begin
abbrev pub secret_of : Begin → List ℕ
secret_of b = vector_of b.key.matrix b.key.y b.x_a

-- ---- the number

unfoldable pub repeats : Option Begin → List ℕ → List ℕ → Bool
repeats none salt root = false
repeats (some b) salt root = eq_list salt b.salt && eq_list root b.root

unfoldable pub conditions : List Made → Call → Conditions
conditions h (begin_call b work out) =
    (1, not (within_limits b.parameters && runs_within b.runs))
    ∷ (2, not (all_true (begin_lengths b.parameters b.runs b.x_a b.salt b.root b.key work out)))
    ∷ (3, not (leb (weight_of (secret_of b)) b.parameters.w))
    ∷ (13, repeats (last_begin h) b.salt b.root)
    ∷ []
conditions h (points_call m2 key work out) =
    (12, leaf_since h)
    ∷ (11, not (is_some (last_begin h)) || is_some (points_since h))
    ∷ told (last_begin h) []
    (λ b. (2, not (all_true (points_lengths b.parameters b.runs m2 key work out))) ∷ (14, not (distinct_points b.parameters b.runs m2)) ∷ [])
conditions h (leaf_call is key work out) =
    (12, leaf_since h)
    ∷ (11, not (is_some (last_begin h)) || not (is_some (points_since h)))
    ∷ told (last_begin h) []
    (λ b. (2, not (all_true (leaf_lengths b.parameters b.runs is key work out))) ∷ (4, not (leaves_below b.parameters is)) ∷ [])

-- ---- what the call gives

module _ (hash : List ℕ → ℕ → List ℕ) (h : List Made) where
  unfoldable pub message : Call → List ℕ
  message (begin_call b work out) = message1 hash b.parameters b.runs (secret_of b) b.salt b.root
  message (points_call m2 key work out) = told (last_begin h) [] (λ b. message3 hash b.parameters b.runs (secret_of b) b.salt b.root key m2)
  message (leaf_call is key work out) =
      told (last_begin h) [] (λ b. told (points_since h) [] (λ m2. message5 hash b.parameters b.runs (secret_of b) b.salt b.root key m2 is))

unfoldable pub area : List Made → Call → ℕ
area h (begin_call b work out) = work_length b.parameters
area h (points_call m2 key work out) = told (last_begin h) 0 (λ b. work_length b.parameters)
area h (leaf_call is key work out) = told (last_begin h) 0 (λ b. work_length b.parameters)

pub record Seen : Type 0 where
  pub number : ℕ
  pub out : List ℕ
  pub work : List ℕ

abbrev pub seen : Outcome → Seen
seen o = record { number = o.answer; out = o.out; work = o.work }

unfoldable pub expected : (List ℕ → ℕ → List ℕ) → List Made → Call → Seen
expected hash h c = go (answer_of (conditions h c))
  where
    go : ℕ → Seen
    go n = record {
      number = n;
      out = cond (eqb n 0) (message hash h c) (lent_out c);
      work = cond (eqb n 0) (zeroed (area h c) (lent_work c)) (lent_work c);
    }
