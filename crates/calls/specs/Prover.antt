-- The prover's three calls as functions on values: the session, the arguments and what the lent slices hold go in; the number,
-- the session, the output and the work area come out. Matrix and y are those lent at the call.
--
-- Prover                what a session holds
-- fresh                 a session before its first begin
-- held_x s               the x that the session holds
-- held_message2 s        the message 2 that it holds
-- intact s              its parameters and its run count are within their limits and its x has at most w nonzero entries, as after every begin
-- standing s            the phase that counts: a session that is not fresh and not intact, so one that no call made, counts as closed
-- closed s              'exchange closed, only begin is due'
-- points_due, leaf_due    'call not due; so is every call but begin before a session's first begin'
-- repeated s salt root  'salt and root both equal those of the exchange held, open or closed'
-- Outcome               the number, 0 where the call was carried out; session, output and work area
-- settle                'A refused call writes no output', and 'leave[s] the session unchanged'
-- begin                 'begin (key, salt, root seed; gives 1)'; 'drops the exchange held'
-- points                'points (gives 3)'
-- leaf                  'leaf (gives 5, closes)': takes the hidden leaf of each run
use Rattle.std.specs.Prelude.{Bool, ◌&&◌, ◌||◌, not, cond, List, [], ◌∷◌, ℕ, leb, replicate, take, Ok, Err}
use Rattle.lists.specs.Part.{put_at}
use Rattle.lists.specs.Zeroed.{zeroed}
use Rattle.lists.specs.Equal.{eq_list}
use Rattle.lists.specs.Checks.{all_true}
use Rattle.answers.specs.Answer.{Answer}
use Rattle.answers.specs.declared.Refusal.TheVariants.{Parameter, Length, Weight, Leaf, NotDue, Closed as ExchangeClosed, Repeated, SamePoint}
use Rattle.answers.specs.Number.{refusal_number}
use Rattle.answers.specs.Checks.{checks}
use Rattle.parameters.specs.declared.Parameters.{Parameters}
use Rattle.parameters.specs.Limits.{within_limits}
use Rattle.relation.specs.Key.{weight_of, vector_of}
use Rattle.layout.specs.Layout.{work_length}
use Rattle.layout.specs.Maxima.{most_messages2}
use Rattle.layout.specs.Runs.{runs_within, messages2_length}
use Rattle.exchange.specs.Values.{Key}
use Rattle.runs.specs.Messages.{message1, message3, message5}
use Rattle.runs.specs.Points.{distinct_points}
use Rattle.prover_phase.specs.declared.Phase.{Phase}
use Rattle.prover_phase.specs.declared.Phase.TheVariants.{Fresh, Begun, Answered, Closed}
use Rattle.calls.specs.Lengths.{begin_lengths, points_lengths, leaf_lengths, leaves_below}
pub use Rattle.prover_phase.specs.Phases.{is_fresh, is_begun, is_answered, is_closed}
pub mod History
pub mod Checked
pub mod AnySession
pub mod Runs

-- ---- what a session holds

pub record Prover : Type 0 where
  pub phase : Phase
  pub parameters : Parameters
  pub runs : ℕ
  pub x : List ℕ
  pub salt : List ℕ
  pub root : List ℕ
  pub message2 : List ℕ

unfoldable pub fresh : Prover
fresh = record {
  phase = Fresh;
  parameters = record { m = 0; k = 0; w = 0; axes = 0; t = 0 };
  runs = 0;
  x = replicate 255 0;
  salt = replicate 32 0;
  root = replicate 16 0;
  message2 = replicate most_messages2 0;
}

unfoldable pub held_x : Prover → List ℕ
held_x s = take s.parameters.m s.x

unfoldable pub held_message2 : Prover → List ℕ
held_message2 s = take (messages2_length s.parameters s.runs) s.message2

unfoldable pub intact : Prover → Bool
intact s = within_limits s.parameters && (runs_within s.runs && leb (weight_of (held_x s)) s.parameters.w)

unfoldable pub standing : Prover → Phase
standing s = cond (is_fresh s.phase || intact s) s.phase Closed

unfoldable pub closed : Prover → Bool
closed s = is_closed (standing s)

unfoldable pub points_due : Prover → Bool
points_due s = is_begun (standing s)

unfoldable pub leaf_due : Prover → Bool
leaf_due s = is_answered (standing s)

unfoldable pub repeated : Prover → List ℕ → List ℕ → Bool
repeated s salt root = not (is_fresh s.phase) && (eq_list salt s.salt && eq_list root s.root)

-- ---- what a call gives

pub record Outcome : Type 0 where
  pub answer : ℕ
  pub prover : Prover
  pub out : List ℕ
  pub work : List ℕ

abbrev pub settle : Answer → Prover → List ℕ → List ℕ → Outcome → Outcome
settle (Ok _) s out work done = done
settle (Err r) s out work done = record { answer = refusal_number r; prover = s; out = out; work = work }

-- a list at the front of an array of n bytes
abbrev pub padded : ℕ → List ℕ → List ℕ
padded n s = put_at (replicate n 0) 0 s

module _ (hash : List ℕ → ℕ → List ℕ) (s : Prover) where
  -- ---- begin

  module _ (p : Parameters) (runs : ℕ) (x_a salt root : List ℕ) (key : Key) (work out : List ℕ) where
    unfoldable pub begin_checks : Answer
    begin_checks =
        checks (
        (within_limits p && runs_within runs, Parameter)
        ∷ (all_true (begin_lengths p runs x_a salt root key work out), Length)
        ∷ (leb (weight_of (vector_of key.matrix key.y x_a)) p.w, Weight)
        ∷ (not (repeated s salt root), Repeated)
        ∷ []
        )

    unfoldable pub begun : Outcome
    begun = record {
      answer = 0;
      prover = record {
        phase = Begun;
        parameters = p;
        runs = runs;
        x = padded 255 (vector_of key.matrix key.y x_a);
        salt = salt;
        root = root;
        message2 = replicate most_messages2 0;
      };
      out = message1 hash p runs (vector_of key.matrix key.y x_a) salt root;
      work = zeroed (work_length p) work;
    }

    unfoldable pub begin : Outcome
    begin = settle begin_checks s out work begun

  -- ---- points and leaf, of the exchange held

  abbrev p : Parameters
  p = s.parameters

  module _ (m2 : List ℕ) (key : Key) (work out : List ℕ) where
    unfoldable pub points_checks : Answer
    points_checks =
        checks (
        (not (closed s), ExchangeClosed)
        ∷ (points_due s, NotDue)
        ∷ (all_true (points_lengths p s.runs m2 key work out), Length)
        ∷ (distinct_points p s.runs m2, SamePoint)
        ∷ []
        )

    unfoldable pub answered : Outcome
    answered = record {
      answer = 0;
      prover = record {
        phase = Answered;
        parameters = p;
        runs = s.runs;
        x = s.x;
        salt = s.salt;
        root = s.root;
        message2 = put_at s.message2 0 m2;
      };
      out = message3 hash p s.runs (held_x s) s.salt s.root key m2;
      work = zeroed (work_length p) work;
    }

    unfoldable pub points : Outcome
    points = settle points_checks s out work answered

  module _ (is : List ℕ) (key : Key) (work out : List ℕ) where
    unfoldable pub leaf_checks : Answer
    leaf_checks =
        checks (
        (not (closed s), ExchangeClosed)
        ∷ (leaf_due s, NotDue)
        ∷ (all_true (leaf_lengths p s.runs is key work out), Length)
        ∷ (leaves_below p is, Leaf)
        ∷ []
        )

    unfoldable pub opened : Outcome
    opened = record {
      answer = 0;
      prover = record {
        phase = Closed;
        parameters = p;
        runs = s.runs;
        x = s.x;
        salt = s.salt;
        root = s.root;
        message2 = s.message2;
      };
      out = message5 hash p s.runs (held_x s) s.salt s.root key (held_message2 s) is;
      work = zeroed (work_length p) work;
    }

    unfoldable pub leaf : Outcome
    leaf = settle leaf_checks s out work opened
