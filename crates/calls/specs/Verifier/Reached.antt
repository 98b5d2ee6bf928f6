-- The session that a history of calls must have reached from a fresh one.
--
-- Telling, telling h     what a history tells: the last begin, and the messages, the leaves, the judging and the calls since then
-- next m t               what it tells after one more call
-- session t              the session that it must be
-- Passed t               the begin, points, response and leaf that it tells passed their checks
-- Stage, at st           how far an exchange has come, and what a history of this stage tells
use Rattle.std.specs.Prelude.{◌≡◌, Bool, true, false, ◌&&◌, ◌||◌, cond, List, [], ◌∷◌, ℕ, eqb, length, replicate}
use Rattle.std.proofs.Math.Option.{Option, none, some}
use Rattle.lists.specs.Part.{put_at}
use Rattle.parameters.specs.Limits.{within_limits}
use Rattle.layout.specs.Maxima.{most_runs, most_message1, most_messages2, most_messages3}
use Rattle.layout.specs.Runs.{runs_within, message1_length, messages2_length, messages3_length}
use Rattle.exchange.specs.Values.{Key}
use Rattle.runs.specs.Points.{distinct_points}
use Rattle.verifier_phase.specs.declared.Phase.{Phase}
use Rattle.verifier_phase.specs.declared.Phase.TheVariants.{Begun, Pointed, Responded, Chosen, Closed}
use Rattle.calls.specs.Lengths.{leaves_below}
use Rattle.calls.specs.Held.{is_some, or_else, told}
use Rattle.calls.specs.Verifier.{Verifier, fresh}
use Rattle.calls.specs.Verifier.History.{Begin, Call, begin_call, points_call, response_call, leaf_call, opening_call, Made, begun, pointed, responded, chosen, opened, last_begin, points_since, response_since, leaf_since, opened_since}
use Rattle.calls.specs.Verifier.Since.{counted, since}

-- ---- what a history tells

pub record Telling : Type 0 where
  pub begin : Option Begin
  pub points : Option (List ℕ)
  pub response : Option (List ℕ)
  pub leaf : Option (List ℕ)
  pub opened : Bool
  pub calls : List Call

abbrev pub telling : List Made → Telling
telling h = record {
  begin = last_begin h;
  points = points_since h;
  response = response_since h;
  leaf = leaf_since h;
  opened = opened_since h;
  calls = since h;
}

abbrev pub next : Made → Telling → Telling
next m t = record {
  begin = or_else (begun m) t.begin;
  points = cond (is_some (begun m)) none (or_else (pointed m) t.points);
  response = cond (is_some (begun m)) none (or_else (responded m) t.response);
  leaf = cond (is_some (begun m)) none (or_else (chosen m) t.leaf);
  opened = cond (is_some (begun m)) false (opened m || t.opened);
  calls = cond (is_some (begun m)) (m.call ∷ []) (cond (is_some t.begin && counted m) (m.call ∷ t.calls) t.calls);
}

-- ---- the session

abbrev pub phase_of : Telling → Phase
phase_of t =
    cond t.opened Closed (cond (is_some t.leaf) Chosen (cond (is_some t.response) Responded (cond (is_some t.points) Pointed Begun)))

abbrev pub session : Telling → Verifier
session t =
    told t.begin fresh
    (λ b. record {
      phase = phase_of t;
      parameters = b.parameters;
      runs = b.runs;
      message1 = put_at (replicate most_message1 0) 0 b.message1;
      message2 = told t.points (replicate most_messages2 0) (put_at (replicate most_messages2 0) 0);
      message3 = told t.response (replicate most_messages3 0) (put_at (replicate most_messages3 0) 0);
      leaves = told t.leaf (replicate most_runs 0) (put_at (replicate most_runs 0) 0);
    })

pub record Passed (t : Telling) : Type 0 where
  pub limits : told t.begin true (λ b. within_limits b.parameters && runs_within b.runs) ≡ true
  pub sized1 : told t.begin true (λ b. eqb (length b.message1) (message1_length b.runs)) ≡ true
  pub sized2 : told t.begin true (λ b. told t.points true (λ m2. eqb (length m2) (messages2_length b.parameters b.runs))) ≡ true
  pub distinct : told t.begin true (λ b. told t.points true (λ m2. distinct_points b.parameters b.runs m2)) ≡ true
  pub sized3 : told t.begin true (λ b. told t.response true (λ m3. eqb (length m3) (messages3_length b.runs))) ≡ true
  pub sized4 : told t.begin true (λ b. told t.leaf true (λ is. eqb (length is) b.runs)) ≡ true
  pub below : told t.begin true (λ b. told t.leaf true (λ is. leaves_below b.parameters is)) ≡ true

-- ---- stages

pub data Stage : Type 0 where
  unbegun : Stage
  at_begin : Begin → Stage
  at_points : Begin → List ℕ → Stage
  at_response : Begin → List ℕ → List ℕ → Stage
  at_leaf : Begin → List ℕ → List ℕ → List ℕ → Stage
  at_opening : Begin → List ℕ → List ℕ → List ℕ → List ℕ → Key → List ℕ → Stage

abbrev pub at : Stage → Telling
at unbegun = record { begin = none; points = none; response = none; leaf = none; opened = false; calls = [] }
at (at_begin b) = record { begin = some b; points = none; response = none; leaf = none; opened = false; calls = begin_call b ∷ [] }
at (at_points b m2) = record { begin = some b; points = some m2; response = none; leaf = none; opened = false; calls = points_call m2 ∷ begin_call b ∷ [] }
at (at_response b m2 m3) = record {
  begin = some b;
  points = some m2;
  response = some m3;
  leaf = none;
  opened = false;
  calls = response_call m3 ∷ points_call m2 ∷ begin_call b ∷ [];
}
at (at_leaf b m2 m3 is) = record {
  begin = some b;
  points = some m2;
  response = some m3;
  leaf = some is;
  opened = false;
  calls = leaf_call is ∷ response_call m3 ∷ points_call m2 ∷ begin_call b ∷ [];
}
at (at_opening b m2 m3 is m5 key work) = record {
  begin = some b;
  points = some m2;
  response = some m3;
  leaf = some is;
  opened = true;
  calls = opening_call m5 key work ∷ leaf_call is ∷ response_call m3 ∷ points_call m2 ∷ begin_call b ∷ [];
}
