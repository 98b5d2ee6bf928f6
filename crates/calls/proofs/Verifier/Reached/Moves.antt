-- A call at a stage: the session after it, what the history tells after it, and what it gives.
--
-- front-held         a session holds a message at the front of zeros
-- below-zeros        zeros are leaves below n
-- standing-at        at every stage the guard changes nothing
-- all_done cs         the calls cs, all carried out
-- history_at st       the calls that made a stage; history-tells: they tell it
-- expected-same      what a history tells decides what is expected of a call
-- Moves st c         the call c at the stage st: the stage after it, whose session the call leaves, and the call gives what is expected
-- moves              every call at every stage
-- opening-told, opening-refused   the opening's number after a leaf was chosen, where the lengths pass, and where they do not
use Rattle.std.specs.Prelude.{◌≡◌, Bool, ◌&&◌, List, [], ◌∷◌, ℕ, zero, suc, length, replicate, take}
use Rattle.std.proofs.Math.Path.{refl, ap}
use Rattle.std.proofs.Common.{sym, ◌∙◌, true≢false, take_at, eqb-true, lt-ltb}
use Rattle.std.proofs.Math.Bool.{true, false, and-false}
use Rattle.std.proofs.Math.Dec.{eqb}
use Rattle.lists.specs.Part.{put_at}
use Rattle.lists.specs.Zeroed.{zeroed}
use Rattle.lists.specs.Checks.{all_true}
use Rattle.lists.specs.Checks.Laws.{and_left, and_right}
use Rattle.answers.specs.Number.{answer_number}
use Rattle.answers.specs.Order.{holds, first_of, answer_of}
use Rattle.parameters.specs.declared.Parameters.{Parameters}
use Rattle.parameters.specs.Limits.{within_limits}
use Rattle.layout.specs.Layout.{leaves, work_length}
use Rattle.layout.specs.Maxima.{most_runs, most_message1, most_messages2, most_messages3}
use Rattle.layout.specs.Runs.{runs_within, message1_length, messages2_length, messages3_length}
use Rattle.layout.specs.Layout.Laws.{leaves-pos}
use Rattle.exchange.specs.Values.{Key}
use Rattle.runs.specs.Points.{distinct_points}
use Rattle.runs.specs.Opening.{Transcript, transcript, verdict}
use Rattle.calls.specs.Held.{is_some}
use Rattle.calls.specs.Lengths.{opening_lengths, leaves_below}
use Rattle.calls.specs.Judging.{opening_conditions, judged}
use Rattle.calls.proofs.Judging.Laws.{verdict-told, verdict-judged}
use Rattle.calls.specs.Verifier as verifier
use Rattle.calls.specs.Verifier.{fresh, intact, standing, closed, due, held_leaves, held_transcript, judge}
use Rattle.calls.specs.Verifier.History.{Begin, Call, begin_call, points_call, response_call, leaf_call, opening_call, lent_work, opening_in, Called, Made, outcome, begun, pointed, responded, chosen, opened, last_begin, points_since, response_since, leaf_since, opened_since, conditions, of_exchange, seen, expected, area}
use Rattle.calls.specs.Verifier.Since.{counted, since}
use Rattle.calls.specs.Verifier.Reached.{Telling, telling, next, session, Passed, Stage, unbegun, at_begin, at_points, at_response, at_leaf, at_opening, at}

-- ---- the guard

within : (b : Begin) → (within_limits b.parameters && runs_within b.runs) ≡ true → within_limits b.parameters ≡ true
within b e = and_left (within_limits b.parameters) (runs_within b.runs) e

counted-runs : (b : Begin) → (within_limits b.parameters && runs_within b.runs) ≡ true → runs_within b.runs ≡ true
counted-runs b e = and_right (within_limits b.parameters) (runs_within b.runs) e

-- a message at the front of zeros
pub front-held : (n k : ℕ) (l : List ℕ) → eqb (length l) k ≡ true → take k (put_at (replicate n 0) 0 l) ≡ l
unfolding put_at
front-held n k l e = take_at l _ k (eqb-true (length l) k e)

-- a session without leaves holds zeros for them
pub below-zeros : (p : Parameters) (k n : ℕ) → leaves_below p (take k (replicate n 0)) ≡ true
unfolding leaves_below
below-zeros p zero n = refl
below-zeros p (suc k) zero = refl
below-zeros p (suc k) (suc n) = rw (lt-ltb 0 (leaves p) (leaves-pos p)) (below-zeros p k n)

pub standing-at : (st : Stage) → Passed (at st) → standing (session (at st)) ≡ (session (at st)).phase
unfolding standing intact fresh
standing-at unbegun k = refl
standing-at (at_begin b) k = rw (within b k.limits, counted-runs b k.limits, below-zeros b.parameters b.runs most_runs)
standing-at (at_points b m2) k = rw (within b k.limits, counted-runs b k.limits, below-zeros b.parameters b.runs most_runs)
standing-at (at_response b m2 m3) k = rw (within b k.limits, counted-runs b k.limits, below-zeros b.parameters b.runs most_runs)
standing-at (at_leaf b m2 m3 is) k = rw (within b k.limits, counted-runs b k.limits, front-held most_runs b.runs is k.sized4, k.below)
standing-at (at_opening b m2 m3 is m5 key work) k =
    rw (within b k.limits, counted-runs b k.limits, front-held most_runs b.runs is k.sized4, k.below)

-- ---- a call at a stage

unfoldable pub all_done : List Call → List Made
all_done [] = []
all_done (c ∷ cs) = record { call = c; number = 0 } ∷ all_done cs

-- the calls that made a stage; what reads them unfolds with them
unfoldable pub history_at : Stage → List Made
unfolding all_done last_begin points_since response_since leaf_since opened_since begun pointed responded chosen opened
history_at st = all_done (at st).calls

pub history-tells : (st : Stage) → telling (history_at st) ≡ at st
unfolding history_at since counted
history-tells unbegun = refl
history-tells (at_begin b) = refl
history-tells (at_points b m2) = refl
history-tells (at_response b m2 m3) = refl
history-tells (at_leaf b m2 m3 is) = refl
history-tells (at_opening b m2 m3 is m5 key work) = refl

next-same : (c : Call) (n : ℕ) (t : Telling) → judged n ≡ false → next (record { call = c; number = n }) t ≡ t
unfolding begun pointed responded chosen opened counted
next-same c n t e = go (eqb n 0) refl
  where
    judged-0 : eqb n 0 ≡ true → judged n ≡ true
    judged-0 q = rw q

    go : (z : Bool) → eqb n 0 ≡ z → next (record { call = c; number = n }) t ≡ t
    go true q = absurd (true≢false (sym (judged-0 q) ∙ e))
    go false q = rw (e, q, and-false (is_some t.begin))

module _ (hash : List ℕ → ℕ → List ℕ) where
  -- what a history tells decides what is expected
  pub expected-same : (h h' : List Made) → telling h ≡ telling h' → (c : Call) → expected hash h c ≡ expected hash h' c
  unfolding expected conditions of_exchange area
  expected-same h h' e (begin_call b) = refl
  expected-same h h' e (points_call m2) =
      rw (ap (λ (t : Telling). t.opened) e, ap (λ (t : Telling). t.begin) e, ap (λ (t : Telling). t.points) e)
  expected-same h h' e (response_call m3) =
      rw (ap (λ (t : Telling). t.opened) e, ap (λ (t : Telling). t.begin) e, ap (λ (t : Telling). t.points) e, ap (λ (t : Telling). t.response) e)
  expected-same h h' e (leaf_call is) =
      rw (ap (λ (t : Telling). t.opened) e, ap (λ (t : Telling). t.begin) e, ap (λ (t : Telling). t.response) e, ap (λ (t : Telling). t.leaf) e)
  expected-same h h' e (opening_call m5 key work) =
      rw (
        ap (λ (t : Telling). t.opened) e,
        ap (λ (t : Telling). t.begin) e,
        ap (λ (t : Telling). t.points) e,
        ap (λ (t : Telling). t.response) e,
        ap (λ (t : Telling). t.leaf) e,
      )

  pub record Moves (st : Stage) (c : Call) : Type 0 where
    pub to : Stage
    pub passed : Passed (at to)
    pub session-to : (outcome hash (session (at st)) c).verifier ≡ session (at to)
    pub tells : next (record { call = c; number = (outcome hash (session (at st)) c).answer }) (at st) ≡ at to
    pub gives : seen (outcome hash (session (at st)) c) ≡ expected hash (history_at st) c

  refuses : {st : Stage} {c : Call} (n : ℕ) → Passed (at st) → judged n ≡ false
      → outcome hash (session (at st)) c ≡ record { answer = n; verifier = session (at st); work = lent_work c }
      → answer_of (conditions hash (history_at st) c) ≡ n → Moves st c
  unfolding expected
  refuses {st} {c} n k j o e = record {
    to = st;
    passed = k;
    session-to = ap (λ (r : Called). r.verifier) o;
    tells = ap (λ (r : Called). next (record { call = c; number = r.answer }) (at st)) o ∙ next-same c n (at st) j;
    gives = ap seen o ∙ rw (e, j, and-false (opening_in c));
  }

  -- begin, points, response, leaf
  takes : {st : Stage} {c : Call} (to : Stage) → Passed (at to) → opening_in c ≡ false
      → outcome hash (session (at st)) c ≡ record { answer = 0; verifier = session (at to); work = lent_work c }
      → next (record { call = c; number = 0 }) (at st) ≡ at to → answer_of (conditions hash (history_at st) c) ≡ 0 → Moves st c
  unfolding expected
  takes {st} {c} to k j o t e = record {
    to = to;
    passed = k;
    session-to = ap (λ (r : Called). r.verifier) o;
    tells = ap (λ (r : Called). next (record { call = c; number = r.answer }) (at st)) o ∙ t;
    gives = ap seen o ∙ rw (e, j);
  }

  -- ---- begin

  begin-moves : (st : Stage) → Passed (at st) → (b : Begin) → Moves st (begin_call b)
  unfolding outcome verifier.begin verifier.begin_checks verifier.begun conditions answer_of first_of holds begun
  begin-moves st k b = go (within_limits b.parameters && runs_within b.runs) (eqb (length b.message1) (message1_length b.runs)) refl refl
    where
      go : (x y : Bool) → (within_limits b.parameters && runs_within b.runs) ≡ x → eqb (length b.message1) (message1_length b.runs) ≡ y
          → Moves st (begin_call b)
      go true true p q =
          takes (at_begin b) (record { limits = p; sized1 = q; sized2 = refl; distinct = refl; sized3 = refl; sized4 = refl; below = refl }) refl
          (rw (p, q)) refl (rw (p, q))
      go true false p q = refuses 2 k refl (rw (p, q)) (rw (p, q))
      go false y p q = refuses 1 k refl (rw p) (rw p)

  -- ---- points

  points-moves : (st : Stage) → Passed (at st) → (m2 : List ℕ) → Moves st (points_call m2)
  unfolding outcome verifier.points verifier.points_checks verifier.pointed closed due fresh history_at conditions answer_of first_of holds counted
  points-moves unbegun k m2 = refuses 11 k refl (rw (standing-at unbegun k)) refl
  points-moves (at_begin b) k m2 =
      go (eqb (length m2) (messages2_length b.parameters b.runs)) (distinct_points b.parameters b.runs m2) refl refl
    where
      go : (x y : Bool) → eqb (length m2) (messages2_length b.parameters b.runs) ≡ x → distinct_points b.parameters b.runs m2 ≡ y
          → Moves (at_begin b) (points_call m2)
      go true true p q =
          takes (at_points b m2)
          (record { limits = k.limits; sized1 = k.sized1; sized2 = p; distinct = q; sized3 = refl; sized4 = refl; below = refl }) refl
          (rw (standing-at (at_begin b) k, p, q)) refl (rw (p, q))
      go true false p q = refuses 14 k refl (rw (standing-at (at_begin b) k, p, q)) (rw (p, q))
      go false y p q = refuses 2 k refl (rw (standing-at (at_begin b) k, p)) (rw p)
  points-moves (at_points b m2') k m2 = refuses 11 k refl (rw (standing-at (at_points b m2') k)) refl
  points-moves (at_response b m2' m3) k m2 = refuses 11 k refl (rw (standing-at (at_response b m2' m3) k)) refl
  points-moves (at_leaf b m2' m3 is) k m2 = refuses 11 k refl (rw (standing-at (at_leaf b m2' m3 is) k)) refl
  points-moves (at_opening b m2' m3 is m5 key work) k m2 = refuses 12 k refl (rw (standing-at (at_opening b m2' m3 is m5 key work) k)) refl

  -- ---- response

  response-moves : (st : Stage) → Passed (at st) → (m3 : List ℕ) → Moves st (response_call m3)
  unfolding outcome verifier.response verifier.response_checks verifier.responded closed due fresh history_at conditions answer_of first_of holds counted
  response-moves unbegun k m3 = refuses 11 k refl (rw (standing-at unbegun k)) refl
  response-moves (at_begin b) k m3 = refuses 11 k refl (rw (standing-at (at_begin b) k)) refl
  response-moves (at_points b m2) k m3 = go (eqb (length m3) (messages3_length b.runs)) refl
    where
      go : (x : Bool) → eqb (length m3) (messages3_length b.runs) ≡ x → Moves (at_points b m2) (response_call m3)
      go true p =
          takes (at_response b m2 m3) (record { limits = k.limits; sized1 = k.sized1; sized2 = k.sized2; distinct = k.distinct; sized3 = p; sized4 = refl; below = refl }) refl
          (rw (standing-at (at_points b m2) k, p)) refl (rw p)
      go false p = refuses 2 k refl (rw (standing-at (at_points b m2) k, p)) (rw p)
  response-moves (at_response b m2 m3') k m3 = refuses 11 k refl (rw (standing-at (at_response b m2 m3') k)) refl
  response-moves (at_leaf b m2 m3' is) k m3 = refuses 11 k refl (rw (standing-at (at_leaf b m2 m3' is) k)) refl
  response-moves (at_opening b m2 m3' is m5 key work) k m3 = refuses 12 k refl (rw (standing-at (at_opening b m2 m3' is m5 key work) k)) refl

  -- ---- leaf

  leaf-moves : (st : Stage) → Passed (at st) → (is : List ℕ) → Moves st (leaf_call is)
  unfolding outcome verifier.leaf verifier.leaf_checks verifier.chosen closed due fresh history_at conditions answer_of first_of holds counted
  leaf-moves unbegun k is = refuses 11 k refl (rw (standing-at unbegun k)) refl
  leaf-moves (at_begin b) k is = refuses 11 k refl (rw (standing-at (at_begin b) k)) refl
  leaf-moves (at_points b m2) k is = refuses 11 k refl (rw (standing-at (at_points b m2) k)) refl
  leaf-moves (at_response b m2 m3) k is = go (eqb (length is) b.runs) (leaves_below b.parameters is) refl refl
    where
      go : (x y : Bool) → eqb (length is) b.runs ≡ x → leaves_below b.parameters is ≡ y → Moves (at_response b m2 m3) (leaf_call is)
      go true true p q =
          takes (at_leaf b m2 m3 is)
          (record { limits = k.limits; sized1 = k.sized1; sized2 = k.sized2; distinct = k.distinct; sized3 = k.sized3; sized4 = p; below = q }) refl
          (rw (standing-at (at_response b m2 m3) k, p, q)) refl (rw (p, q))
      go true false p q = refuses 4 k refl (rw (standing-at (at_response b m2 m3) k, p, q)) (rw (p, q))
      go false y p q = refuses 2 k refl (rw (standing-at (at_response b m2 m3) k, p)) (rw p)
  leaf-moves (at_leaf b m2 m3 is') k is = refuses 11 k refl (rw (standing-at (at_leaf b m2 m3 is') k)) refl
  leaf-moves (at_opening b m2 m3 is' m5 key work) k is = refuses 12 k refl (rw (standing-at (at_opening b m2 m3 is' m5 key work) k)) refl

  -- ---- the opening

  module _ (b : Begin) (m2 m3 is m5 : List ℕ) (key : Key) (work : List ℕ) where
    abbrev here : Stage
    here = at_leaf b m2 m3 is

    abbrev there : Stage
    there = at_opening b m2 m3 is m5 key work

    abbrev call : Call
    call = opening_call m5 key work

    abbrev heard : Transcript
    heard = transcript b.message1 m2 m3 is m5

    abbrev sizes : Bool
    sizes = all_true (opening_lengths b.parameters is m5 key work)

    pub opening-told : sizes ≡ true → answer_of (conditions hash (history_at here) call) ≡ answer_number (verdict hash b.parameters b.runs heard key)
    unfolding history_at conditions of_exchange opening_conditions answer_of first_of holds
    opening-told p = rw p (sym (verdict-told hash b.parameters b.runs heard key))

    pub opening-refused : sizes ≡ false → answer_of (conditions hash (history_at here) call) ≡ 2
    unfolding history_at conditions of_exchange opening_conditions answer_of first_of holds
    opening-refused p = rw p

    judged-next : (n : ℕ) → judged n ≡ true → next (record { call = call; number = n }) (at here) ≡ at there
    unfolding begun pointed responded chosen opened counted
    judged-next n j = go (eqb n 0) refl
      where
        go : (z : Bool) → eqb n 0 ≡ z → next (record { call = call; number = n }) (at here) ≡ at there
        go true q = rw (j, q)
        go false q = rw (j, q)

    module _ (k : Passed (at here)) where
      leaves_at : held_leaves (session (at here)) ≡ is
      leaves_at = front-held most_runs b.runs is k.sized4

      held_at : held_transcript (session (at here)) m5 ≡ heard
      unfolding held_transcript
      held_at =
          rw (
            front-held most_message1 (message1_length b.runs) b.message1 k.sized1,
            front-held most_messages2 (messages2_length b.parameters b.runs) m2 k.sized2,
            front-held most_messages3 (messages3_length b.runs) m3 k.sized3,
            leaves_at,
          )

      judges : (n : ℕ) → judged n ≡ true
          → outcome hash (session (at here)) call ≡ record { answer = n; verifier = session (at there); work = zeroed (work_length b.parameters) work }
          → answer_of (conditions hash (history_at here) call) ≡ n → Moves here call
      unfolding expected area history_at
      judges n j o e = record {
        to = there;
        passed = record { limits = k.limits; sized1 = k.sized1; sized2 = k.sized2; distinct = k.distinct; sized3 = k.sized3; sized4 = k.sized4; below = k.below };
        session-to = ap (λ (r : Called). r.verifier) o;
        tells = ap (λ (r : Called). next (record { call = call; number = r.answer }) (at here)) o ∙ judged-next n j;
        gives = ap seen o ∙ rw (e, j);
      }

      opening-due : Moves here call
      unfolding outcome verifier.opening verifier.opening_checks judge verifier.ended closed due
      opening-due = go sizes refl
        where
          go : (x : Bool) → sizes ≡ x → Moves here call
          go true p =
              judges (answer_number (verdict hash b.parameters b.runs heard key)) (verdict-judged hash b.parameters b.runs heard key)
              (rw (standing-at here k, leaves_at, p, held_at)) (opening-told p)
          go false p = refuses 2 k refl (rw (standing-at here k, leaves_at, p)) (opening-refused p)

  opening-moves : (st : Stage) → Passed (at st) → (m5 : List ℕ) (key : Key) (work : List ℕ) → Moves st (opening_call m5 key work)
  unfolding outcome verifier.opening verifier.opening_checks judge closed due fresh history_at conditions answer_of first_of holds of_exchange opening_conditions
  opening-moves unbegun k m5 key work = refuses 11 k refl (rw (standing-at unbegun k)) refl
  opening-moves (at_begin b) k m5 key work = refuses 11 k refl (rw (standing-at (at_begin b) k)) refl
  opening-moves (at_points b m2) k m5 key work = refuses 11 k refl (rw (standing-at (at_points b m2) k)) refl
  opening-moves (at_response b m2 m3) k m5 key work = refuses 11 k refl (rw (standing-at (at_response b m2 m3) k)) refl
  opening-moves (at_leaf b m2 m3 is) k m5 key work = opening-due b m2 m3 is m5 key work k
  opening-moves (at_opening b m2 m3 is m5' key' work') k m5 key work = refuses 12 k refl (rw (standing-at (at_opening b m2 m3 is m5' key' work') k)) refl

  pub moves : (st : Stage) → Passed (at st) → (c : Call) → Moves st c
  moves st k (begin_call b) = begin-moves st k b
  moves st k (points_call m2) = points-moves st k m2
  moves st k (response_call m3) = response-moves st k m3
  moves st k (leaf_call is) = leaf-moves st k is
  moves st k (opening_call m5 key work) = opening-moves st k m5 key work
