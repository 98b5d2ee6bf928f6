-- The verifier's five calls as functions on values: the session, the arguments and what the lent slices hold go in; the number,
-- the session and, for the opening, the work area come out.
--
-- Verifier             what a session holds
-- fresh                a session before its first begin
-- intact s             its parameters and its run count are within their limits and the leaves of its runs are below n, as after every begin
-- standing s           the phase that counts: a session that is not fresh and not intact, so one that no call made, counts as closed
-- closed s             'exchange closed, only begin is due'
-- due s here           'call not due; so is every call but begin before a session's first begin'
-- Outcome, Judged      the number, 0 where the call was carried out (the opening: accepted), and the session; of the opening, also the work area
-- settle               a refusal leaves 'the session unchanged'
-- begin, points, response, leaf   'begin (parameters, message 1), points, response, leaf': each takes its message
-- opening              'opening (closes with accepted, 5, 6 or 7)'; 'Closing changes nothing else that a session holds'
use Rattle.std.specs.Prelude.{Bool, ◌&&◌, ◌||◌, not, cond, List, [], ◌∷◌, ℕ, eqb, length, replicate, take, Ok, Err}
use Rattle.lists.specs.Part.{put_at}
use Rattle.lists.specs.Zeroed.{zeroed}
use Rattle.lists.specs.Checks.{all_true}
use Rattle.answers.specs.Answer.{Answer}
use Rattle.answers.specs.declared.Refusal.{Refusal}
use Rattle.answers.specs.declared.Refusal.TheVariants.{Parameter, Length, Leaf, NotDue, Closed as ExchangeClosed, SamePoint}
use Rattle.answers.specs.Number.{refusal_number, answer_number}
use Rattle.answers.specs.Checks.{checks}
use Rattle.parameters.specs.declared.Parameters.{Parameters}
use Rattle.parameters.specs.Limits.{within_limits}
use Rattle.layout.specs.Layout.{work_length}
use Rattle.layout.specs.Maxima.{most_runs, most_message1, most_messages2, most_messages3}
use Rattle.layout.specs.Runs.{runs_within, message1_length, messages2_length, messages3_length}
use Rattle.exchange.specs.Values.{Key}
use Rattle.runs.specs.Points.{distinct_points}
use Rattle.runs.specs.Opening.{Transcript, transcript, verdict}
use Rattle.verifier_phase.specs.declared.Phase.{Phase}
use Rattle.verifier_phase.specs.declared.Phase.TheVariants.{Fresh, Begun, Pointed, Responded, Chosen, Closed}
use Rattle.calls.specs.Lengths.{opening_lengths, leaves_below}
pub use Rattle.verifier_phase.specs.Phases.{step}
pub mod History
pub mod Since
pub mod Reached
pub mod Runs

-- ---- what a session holds

pub record Verifier : Type 0 where
  pub phase : Phase
  pub parameters : Parameters
  pub runs : ℕ
  pub message1 : List ℕ
  pub message2 : List ℕ
  pub message3 : List ℕ
  pub leaves : List ℕ

unfoldable pub fresh : Verifier
fresh = record {
  phase = Fresh;
  parameters = record { m = 0; k = 0; w = 0; axes = 0; t = 0 };
  runs = 0;
  message1 = replicate most_message1 0;
  message2 = replicate most_messages2 0;
  message3 = replicate most_messages3 0;
  leaves = replicate most_runs 0;
}

-- what it holds of each message, in front of zeros
abbrev pub held_message1 : Verifier → List ℕ
held_message1 s = take (message1_length s.runs) s.message1

abbrev pub held_message2 : Verifier → List ℕ
held_message2 s = take (messages2_length s.parameters s.runs) s.message2

abbrev pub held_message3 : Verifier → List ℕ
held_message3 s = take (messages3_length s.runs) s.message3

abbrev pub held_leaves : Verifier → List ℕ
held_leaves s = take s.runs s.leaves

unfoldable pub intact : Verifier → Bool
intact s = within_limits s.parameters && (runs_within s.runs && leaves_below s.parameters (held_leaves s))

unfoldable pub standing : Verifier → Phase
standing s = cond (eqb (step s.phase) (step Fresh) || intact s) s.phase Closed

unfoldable pub closed : Verifier → Bool
closed s = eqb (step (standing s)) (step Closed)

unfoldable pub due : Verifier → Phase → Bool
due s here = eqb (step (standing s)) (step here)

-- the messages held, with message 5
unfoldable pub held_transcript : Verifier → List ℕ → Transcript
held_transcript s m5 = transcript (held_message1 s) (held_message2 s) (held_message3 s) (held_leaves s) m5

-- ---- what a call gives

pub record Outcome : Type 0 where
  pub answer : ℕ
  pub verifier : Verifier

pub record Judged : Type 0 where
  pub answer : ℕ
  pub verifier : Verifier
  pub work : List ℕ

abbrev pub settle : Answer → Verifier → Verifier → Outcome
settle (Ok _) s next = record { answer = 0; verifier = next }
settle (Err r) s next = record { answer = refusal_number r; verifier = s }

-- the calls after begin: 12 and 11 come first
abbrev pub after_begin : Verifier → Phase → List (Bool × Refusal) → Answer
after_begin s here cs = checks ((not (closed s), ExchangeClosed) ∷ (due s here, NotDue) ∷ cs)

-- ---- begin, points, response, leaf: the checks of each, the session after it, and the call

unfoldable pub begin_checks : Parameters → ℕ → List ℕ → Answer
begin_checks p runs m1 = checks ((within_limits p && runs_within runs, Parameter) ∷ (eqb (length m1) (message1_length runs), Length) ∷ [])

unfoldable pub begun : Parameters → ℕ → List ℕ → Verifier
begun p runs m1 = record {
  phase = Begun;
  parameters = p;
  runs = runs;
  message1 = put_at (replicate most_message1 0) 0 m1;
  message2 = replicate most_messages2 0;
  message3 = replicate most_messages3 0;
  leaves = replicate most_runs 0;
}

unfoldable pub begin : Verifier → Parameters → ℕ → List ℕ → Outcome
begin s p runs m1 = settle (begin_checks p runs m1) s (begun p runs m1)

unfoldable pub points_checks : Verifier → List ℕ → Answer
points_checks s m2 =
    after_begin s Begun
    ((eqb (length m2) (messages2_length s.parameters s.runs), Length) ∷ (distinct_points s.parameters s.runs m2, SamePoint) ∷ [])

unfoldable pub pointed : Verifier → List ℕ → Verifier
pointed s m2 = record {
  phase = Pointed;
  parameters = s.parameters;
  runs = s.runs;
  message1 = s.message1;
  message2 = put_at s.message2 0 m2;
  message3 = s.message3;
  leaves = s.leaves;
}

unfoldable pub points : Verifier → List ℕ → Outcome
points s m2 = settle (points_checks s m2) s (pointed s m2)

unfoldable pub response_checks : Verifier → List ℕ → Answer
response_checks s m3 = after_begin s Pointed ((eqb (length m3) (messages3_length s.runs), Length) ∷ [])

unfoldable pub responded : Verifier → List ℕ → Verifier
responded s m3 = record {
  phase = Responded;
  parameters = s.parameters;
  runs = s.runs;
  message1 = s.message1;
  message2 = s.message2;
  message3 = put_at s.message3 0 m3;
  leaves = s.leaves;
}

unfoldable pub response : Verifier → List ℕ → Outcome
response s m3 = settle (response_checks s m3) s (responded s m3)

unfoldable pub leaf_checks : Verifier → List ℕ → Answer
leaf_checks s is = after_begin s Responded ((eqb (length is) s.runs, Length) ∷ (leaves_below s.parameters is, Leaf) ∷ [])

unfoldable pub chosen : Verifier → List ℕ → Verifier
chosen s is = record {
  phase = Chosen;
  parameters = s.parameters;
  runs = s.runs;
  message1 = s.message1;
  message2 = s.message2;
  message3 = s.message3;
  leaves = put_at s.leaves 0 is;
}

unfoldable pub leaf : Verifier → List ℕ → Outcome
leaf s is = settle (leaf_checks s is) s (chosen s is)

-- ---- the opening

-- the session closed
unfoldable pub ended : Verifier → Verifier
ended s = record {
  phase = Closed;
  parameters = s.parameters;
  runs = s.runs;
  message1 = s.message1;
  message2 = s.message2;
  message3 = s.message3;
  leaves = s.leaves;
}

module _ (hash : List ℕ → ℕ → List ℕ) (s : Verifier) (m5 : List ℕ) (key : Key) (work : List ℕ) where
  abbrev p : Parameters
  p = s.parameters

  unfoldable pub opening_checks : Answer
  opening_checks = after_begin s Chosen ((all_true (opening_lengths p (held_leaves s) m5 key work), Length) ∷ [])

  unfoldable pub judge : Answer → Judged
  judge (Ok _) = record { answer = answer_number (verdict hash p s.runs (held_transcript s m5) key); verifier = ended s; work = zeroed (work_length p) work }
  judge (Err r) = record { answer = refusal_number r; verifier = s; work = work }

  unfoldable pub opening : Judged
  opening = judge opening_checks
