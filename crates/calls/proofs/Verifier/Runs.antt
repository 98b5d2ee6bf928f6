-- What follows for runs of the verifier's calls.
--
-- in_order                the calls since the last begin are begin, points, response, leaf, opening, in this order, as far as the exchange has come
-- accepted-exactly        after every run an opening is accepted exactly when it is `AcceptedAfter` that run
-- begin-taken, points-taken, response-taken, leaf-taken, opening-judged   the call that is due is carried out, where its message is as it has to be
use Rattle.std.proofs.Math.Path.{◌≡◌, refl, sym, ap}
use Rattle.std.proofs.Common.{◌∙◌, arith}
use Rattle.std.specs.Prelude.{Bool, List, [], ◌∷◌, ◌↔◌, ℕ, length, Ok}
use Rattle.std.proofs.Math.Bool.{true, false}
use borrow.Author.Tests.{eq-eqb}
use Rattle.lists.specs.Checks.{all_true}
use Rattle.answers.specs.Number.{answer_number}
use Rattle.answers.specs.Number.Laws.{answers-apart}
use Rattle.answers.specs.Order.{holds, first_of, answer_of}
use Rattle.parameters.specs.Limits.{within_limits}
use Rattle.layout.specs.Runs.{runs_within, message1_length, messages2_length, messages3_length}
use Rattle.exchange.specs.Values.{Key}
use Rattle.runs.specs.Points.{distinct_points}
use Rattle.runs.specs.Opening.{transcript, verdict}
use Rattle.runs.proofs.Opening.Laws.{accepted-then, accepted-when}
use Rattle.calls.specs.Lengths.{opening_lengths, leaves_below}
use Rattle.calls.specs.Judging.{opening_conditions}
use Rattle.calls.specs.Verifier as verifier
use Rattle.calls.specs.Verifier.{Verifier}
use Rattle.calls.specs.Verifier.History.{Begin, Call, begin_call, points_call, response_call, leaf_call, opening_call, Seen, outcome, after, made, conditions, of_exchange, expected}
use Rattle.calls.specs.Verifier.Since.{since}
use Rattle.calls.specs.Verifier.Reached.{Telling, telling, Stage, unbegun, at_begin, at_points, at_response, at_leaf, at_opening, at}
use Rattle.calls.proofs.Verifier.Reached.Moves.{history_at, history-tells, expected-same, opening-told, opening-refused}
use Rattle.calls.proofs.Verifier.Reached.Laws.{Reached, reached, since-stage}
use Rattle.calls.proofs.Verifier.Told.{told-by-calls}
use Rattle.calls.specs.Verifier.Runs.{AcceptedAfter}

module _ (hash : List ℕ → ℕ → List ℕ) where
  pub in_order : (cs : List Call) → (st : Stage) × (since (made hash cs) ≡ (at st).calls)
  in_order cs = let r = reached hash cs in (r.stage, ap (λ (t : Telling). t.calls) r.tells)

  -- the number of a call, by the stage
  number_at : (cs : List Call) (st : Stage) → telling (made hash cs) ≡ at st → (c : Call)
      → (outcome hash (after hash cs) c).answer ≡ answer_of (conditions hash (history_at st) c)
  unfolding expected
  number_at cs st e c =
      ap (λ (s : Seen). s.number) (told-by-calls hash cs c ∙ expected-same hash (made hash cs) (history_at st) (e ∙ sym (history-tells st)) c)

  -- ---- acceptance

  module _ (cs : List Call) (m5 : List ℕ) (key : Key) (work : List ℕ) where
    accepted-if : AcceptedAfter hash cs m5 key work → (outcome hash (after hash cs) (opening_call m5 key work)).answer ≡ 0
    accepted-if a =
        number_at cs (at_leaf a.begin a.message2 a.message3 a.leaves)
        (since-stage hash cs (at_leaf a.begin a.message2 a.message3 a.leaves) a.calls) (opening_call m5 key work)
        ∙ opening-told hash a.begin a.message2 a.message3 a.leaves m5 key work a.lengths
        ∙ ap answer_number
        (accepted-when hash a.begin.parameters a.begin.runs (transcript a.begin.message1 a.message2 a.message3 a.leaves m5) key
        a.accepted)

    -- the stage at which an opening gets 0
    complete-at : (st : Stage) → since (made hash cs) ≡ (at st).calls → answer_of (conditions hash (history_at st) (opening_call m5 key work)) ≡ 0 → AcceptedAfter hash cs m5 key work
    unfolding history_at conditions of_exchange opening_conditions answer_of first_of holds
    complete-at unbegun e z = absurd (let q : ◌≡◌ {A = ℕ} 11 0 = z in omega arith)
    complete-at (at_begin b) e z = absurd (let q : ◌≡◌ {A = ℕ} 11 0 = z in omega arith)
    complete-at (at_points b m2) e z = absurd (let q : ◌≡◌ {A = ℕ} 11 0 = z in omega arith)
    complete-at (at_response b m2 m3) e z = absurd (let q : ◌≡◌ {A = ℕ} 11 0 = z in omega arith)
    complete-at (at_leaf b m2 m3 is) e z = go (all_true (opening_lengths b.parameters is m5 key work)) refl
      where
        go : (x : Bool) → all_true (opening_lengths b.parameters is m5 key work) ≡ x → AcceptedAfter hash cs m5 key work
        go true p = record {
          begin = b;
          message2 = m2;
          message3 = m3;
          leaves = is;
          calls = e;
          lengths = p;
          accepted =
              accepted-then hash b.parameters b.runs (transcript b.message1 m2 m3 is m5) key
              (answers-apart (verdict hash b.parameters b.runs (transcript b.message1 m2 m3 is m5) key) (Ok tt)
              (sym (opening-told hash b m2 m3 is m5 key work p) ∙ z));
        }
        go false p = absurd (let q : ◌≡◌ {A = ℕ} 2 0 = sym (opening-refused hash b m2 m3 is m5 key work p) ∙ z in omega arith)
    complete-at (at_opening b m2 m3 is m5' key' work') e z = absurd (let q : ◌≡◌ {A = ℕ} 12 0 = z in omega arith)

    accepted-only : (outcome hash (after hash cs) (opening_call m5 key work)).answer ≡ 0 → AcceptedAfter hash cs m5 key work
    accepted-only z = go (reached hash cs)
      where
        go : Reached hash cs → AcceptedAfter hash cs m5 key work
        go r =
            complete-at r.stage (ap (λ (t : Telling). t.calls) r.tells)
            (sym (number_at cs r.stage r.tells (opening_call m5 key work)) ∙ z)

    pub accepted-exactly : ((outcome hash (after hash cs) (opening_call m5 key work)).answer ≡ 0) ↔ AcceptedAfter hash cs m5 key work
    accepted-exactly = (accepted-only, accepted-if)

  -- ---- the call that is due

  pub begin-taken : (s : Verifier) (b : Begin) → within_limits b.parameters ≡ true → runs_within b.runs ≡ true
      → length b.message1 ≡ message1_length b.runs
      → (outcome hash s (begin_call b)).answer ≡ 0
  unfolding outcome verifier.begin verifier.begin_checks
  begin-taken s b p r q = rw (p, r, eq-eqb (length b.message1) (message1_length b.runs) q)

  module _ (cs : List Call) (b : Begin) where
    pub points-taken : since (made hash cs) ≡ begin_call b ∷ [] → (m2 : List ℕ) → length m2 ≡ messages2_length b.parameters b.runs
        → distinct_points b.parameters b.runs m2 ≡ true
        → (outcome hash (after hash cs) (points_call m2)).answer ≡ 0
    unfolding history_at conditions answer_of first_of holds
    points-taken e m2 q d =
        number_at cs (at_begin b) (since-stage hash cs (at_begin b) e) (points_call m2)
        ∙ rw (eq-eqb (length m2) (messages2_length b.parameters b.runs) q, d)

    module _ (m2 : List ℕ) where
      pub response-taken : since (made hash cs) ≡ points_call m2 ∷ begin_call b ∷ [] → (m3 : List ℕ) → length m3 ≡ messages3_length b.runs
          → (outcome hash (after hash cs) (response_call m3)).answer ≡ 0
      unfolding history_at conditions answer_of first_of holds
      response-taken e m3 q =
          number_at cs (at_points b m2) (since-stage hash cs (at_points b m2) e) (response_call m3) ∙ rw (eq-eqb (length m3) (messages3_length b.runs) q)

      module _ (m3 : List ℕ) where
        pub leaf-taken : since (made hash cs) ≡ response_call m3 ∷ points_call m2 ∷ begin_call b ∷ []
            → (is : List ℕ) → length is ≡ b.runs → leaves_below b.parameters is ≡ true
            → (outcome hash (after hash cs) (leaf_call is)).answer ≡ 0
        unfolding history_at conditions answer_of first_of holds
        leaf-taken e is l q =
            number_at cs (at_response b m2 m3) (since-stage hash cs (at_response b m2 m3) e) (leaf_call is) ∙ rw (eq-eqb (length is) b.runs l, q)

        pub opening-judged : (is : List ℕ) → since (made hash cs) ≡ leaf_call is ∷ response_call m3 ∷ points_call m2 ∷ begin_call b ∷ []
            → (m5 : List ℕ) (key : Key) (work : List ℕ) → all_true (opening_lengths b.parameters is m5 key work) ≡ true
            → (outcome hash (after hash cs) (opening_call m5 key work)).answer
            ≡ answer_number (verdict hash b.parameters b.runs (transcript b.message1 m2 m3 is m5) key)
        opening-judged is e m5 key work p =
            number_at cs (at_leaf b m2 m3 is) (since-stage hash cs (at_leaf b m2 m3 is) e) (opening_call m5 key work) ∙ opening-told hash b m2 m3 is m5 key work p
