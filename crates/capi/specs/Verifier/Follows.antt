-- A session in a buffer goes on as the session that its bytes are does, call by call.
--
-- Follows r o                 r answers what o answers, and its bytes are o's session
-- new-follows, new-size       a fresh session's bytes are one
-- begin-follows, points-follows, response-follows, leaf-follows   each call does
-- FollowsJudged r o, opening-follows   and the opening, with the work area
use Rattle.std.specs.Prelude.{◌≡◌, Bool, not, List, ℕ, replicate, Ok, Err}
use Rattle.std.proofs.Math.Path.{refl, ap}
use Rattle.std.proofs.Common.{◌∙◌, arith}
use Rattle.std.proofs.Math.Bool.{true, false}
use Rattle.std.proofs.Math.ListN.{length}
use Rattle.lists.specs.Checks.{all_true}
use Rattle.lists.specs.Part.Laws.{length_part, length-put_at}
use Rattle.answers.specs.Number.{refusal_number}
use Rattle.answers.specs.Number.Laws.{refused-not-0}
use Rattle.answers.specs.Answer.{Answer}
use Rattle.answers.specs.declared.Refusal.TheVariants.{Length, NotDue, Closed as ExchangeClosed}
use Rattle.answers.specs.Checks.{check}
use Rattle.parameters.specs.declared.Parameters.{Parameters}
use Rattle.layout.specs.Maxima.{most_runs, most_message1, most_messages2, most_messages3}
use Rattle.shake256.specs.Fips.{SHAKE256}
use Rattle.exchange.specs.Values.{Key}
use Rattle.verifier_phase.specs.declared.Phase.TheVariants.{Chosen}
use Rattle.calls.specs.Lengths.{opening_lengths}
use Rattle.calls.proofs.Judging.Laws.{verdict-judged}
use Rattle.verifier.specs.Laws.{begin-passed, points-passed, response-passed, leaf-passed}
use Rattle.calls.specs.Verifier.{Verifier, Outcome as Called, Judged as Opened, fresh, settle, closed, due, held_leaves, held_transcript, begin, begin_checks, begun, points, points_checks, pointed, response, response_checks, responded, leaf, leaf_checks, chosen, opening, opening_checks, judge, ended}
use Rattle.stored.specs.Verifier.{verifier_size, verifier_bytes, verifier_from}
use Rattle.stored.proofs.Laws.Verifier.{VerifierLengths, length-verifier_bytes, verifier-back}
use Rattle.capi.specs.Session.{Kept, verifier_new}
use Rattle.stored.proofs.Laws.Buffer.{fits-so, refused-stays}
use Rattle.capi.specs.Verifier.{verifier_after, verifier_call, verifier_begin, verifier_points, verifier_response, verifier_leaf, Judged, opening_after, verifier_opening}

pub record Follows (r : Kept) (o : Called) : Type 0 where
  pub number : r.number ≡ o.answer
  pub session : verifier_from r.session ≡ o.verifier
  pub size : length r.session ≡ verifier_size

pub record FollowsJudged (r : Judged) (o : Opened) : Type 0 where
  pub number : r.number ≡ o.answer
  pub session : verifier_from r.session ≡ o.verifier
  pub size : length r.session ≡ verifier_size
  pub work : r.work ≡ o.work

module _ (b : List ℕ) (size : length b ≡ verifier_size) where
  abbrev s : Verifier
  s = verifier_from b

  -- ---- any call but the opening

  read-lengths : VerifierLengths s
  unfolding verifier_from
  read-lengths = record {
    message1 = length_part b 7 most_message1 (omega arith);
    message2 = length_part b 1_063 most_messages2 (omega arith);
    message3 = length_part b 3_111 most_messages3 (omega arith);
    leaves = length_part b 4_135 most_runs (omega arith);
  }

  settle-follows : (a : Answer) (next : Verifier) → (a ≡ Ok tt → VerifierLengths next) → Follows (verifier_after b (settle a s next)) (settle a s next)
  unfolding verifier_after
  settle-follows (Ok _) next lengths = record {
    number = refl;
    session = verifier-back next (lengths refl);
    size = length-verifier_bytes next (lengths refl);
  }
  settle-follows (Err r) next lengths =
      let stays = refused-stays (refusal_number r) b (verifier_bytes s) (refused-not-0 r) in
      record { number = refl; session = ap verifier_from stays; size = ap length stays ∙ size }

  call-follows : (n : ℕ) (call : Verifier → Called) → Follows (verifier_after b (call s)) (call s) → Follows (verifier_call b n call) (call s)
  unfolding verifier_call
  call-follows n call h = rw (← fits-so b verifier_size (verifier_after b (call s)) _ size) h

  pub new-follows : verifier_from (verifier_new b).session ≡ fresh
  unfolding fresh
  new-follows = rw (← fits-so b verifier_size _ _ size) (verifier-back fresh (record { message1 = refl; message2 = refl; message3 = refl; leaves = refl }))

  pub new-size : length (verifier_new b).session ≡ verifier_size
  unfolding fresh
  new-size = rw (← fits-so b verifier_size _ _ size) (length-verifier_bytes fresh (record { message1 = refl; message2 = refl; message3 = refl; leaves = refl }))

  -- ---- the calls but the opening

  pub begin-follows : (p : Parameters) (runs : ℕ) (m1 : List ℕ) → Follows (verifier_begin b p runs m1) (begin s p runs m1)
  unfolding begin begun
  begin-follows p runs m1 =
      call-follows _ (λ z. begin z p runs m1) (settle-follows (begin_checks p runs m1) (begun p runs m1) (λ e.
      let long = begin-passed p runs m1 e in
      record {
        message1 = length-put_at (replicate most_message1 0) 0 m1 (omega arith);
        message2 = refl;
        message3 = refl;
        leaves = refl;
      }))

  pub points-follows : (m2 : List ℕ) → Follows (verifier_points b m2) (points s m2)
  unfolding points pointed
  points-follows m2 =
      call-follows _ (λ z. points z m2) (settle-follows (points_checks s m2) (pointed s m2) (λ e.
      let long = points-passed s m2 e in
      let held = read-lengths.message2 in
      record {
        message1 = read-lengths.message1;
        message2 = length-put_at s.message2 0 m2 (omega arith) ∙ held;
        message3 = read-lengths.message3;
        leaves = read-lengths.leaves;
      }))

  pub response-follows : (m3 : List ℕ) → Follows (verifier_response b m3) (response s m3)
  unfolding response responded
  response-follows m3 =
      call-follows _ (λ z. response z m3) (settle-follows (response_checks s m3) (responded s m3) (λ e.
      let long = response-passed s m3 e in
      let held = read-lengths.message3 in
      record {
        message1 = read-lengths.message1;
        message2 = read-lengths.message2;
        message3 = length-put_at s.message3 0 m3 (omega arith) ∙ held;
        leaves = read-lengths.leaves;
      }))

  pub leaf-follows : (is : List ℕ) → Follows (verifier_leaf b is) (leaf s is)
  unfolding leaf chosen
  leaf-follows is =
      call-follows _ (λ z. leaf z is) (settle-follows (leaf_checks s is) (chosen s is) (λ e.
      let long = leaf-passed s is e in
      let held = read-lengths.leaves in
      record {
        message1 = read-lengths.message1;
        message2 = read-lengths.message2;
        message3 = read-lengths.message3;
        leaves = length-put_at s.leaves 0 is (omega arith) ∙ held;
      }))

  -- ---- the opening

  module _ (m5 : List ℕ) (key : Key) (work : List ℕ) where
    ended-lengths : VerifierLengths (ended s)
    unfolding ended
    ended-lengths = record {
      message1 = read-lengths.message1;
      message2 = read-lengths.message2;
      message3 = read-lengths.message3;
      leaves = read-lengths.leaves;
    }

    judge-follows : (x y z : Bool)
        → FollowsJudged (opening_after b (judge SHAKE256 s m5 key work (check x ExchangeClosed (check y NotDue (check z Length (Ok tt))))))
        (judge SHAKE256 s m5 key work (check x ExchangeClosed (check y NotDue (check z Length (Ok tt)))))
    unfolding judge opening_after
    judge-follows true true true =
        let judged = verdict-judged SHAKE256 s.parameters s.runs (held_transcript s m5) key in
        record {
          number = refl;
          session = rw judged (verifier-back (ended s) ended-lengths);
          size = rw judged (length-verifier_bytes (ended s) ended-lengths);
          work = refl;
        }
    judge-follows true true false = record { number = refl; session = refl; size = size; work = refl }
    judge-follows true false z = record { number = refl; session = refl; size = size; work = refl }
    judge-follows false y z = record { number = refl; session = refl; size = size; work = refl }

    pub opening-follows : FollowsJudged (verifier_opening b m5 key work) (opening SHAKE256 s m5 key work)
    unfolding verifier_opening opening opening_checks
    opening-follows =
        rw (← fits-so b verifier_size (opening_after b (opening SHAKE256 s m5 key work)) _ size)
        (judge-follows (not (closed s)) (due s Chosen) (all_true (opening_lengths s.parameters (held_leaves s) m5 key work)))
