-- Runs of the verifier's calls on one session buffer that nobody else writes.
--
-- plain r              a call without a work area
-- on_buffer b c         the call on the bytes b
-- buffer_after b cs     the bytes after `unlock_verifier_new` on the buffer b and the calls cs, the latest call first
-- shown r              number and work area of a call on bytes
-- run-follows          the bytes after a run are the session after the same calls by value
-- buffer-told          each call of a run gives what document 01 says of it by the calls that came before
-- accepted-on-buffer   an opening is accepted exactly when since the last begin carried out points, response and leaf were, in this order and
--                      nothing else, and document 01's three checks hold of their messages
use Rattle.std.specs.Prelude.{◌≡◌, refl, ◌↔◌, ℕ, length}
use Rattle.std.proofs.Common.{sym, ◌∙◌}
use Rattle.std.proofs.Math.Path.{ap}
use mathlib.Core.List.{List, [], ◌∷◌}
use Rattle.parameters.specs.Set.{numbers_of}
use Rattle.shake256.specs.Fips.{SHAKE256}
use Rattle.exchange.specs.Values.{Key}
use Rattle.calls.specs.Verifier as verifier
use Rattle.calls.specs.Verifier.{Verifier}
use Rattle.calls.specs.Verifier.History.{Call, begin_call, points_call, response_call, leaf_call, opening_call, Called, outcome, after, made, Seen, seen, expected}
use Rattle.calls.proofs.Verifier.Told.{told-by-calls}
use Rattle.calls.specs.Verifier.Runs.{AcceptedAfter}
use Rattle.calls.proofs.Verifier.Runs.{accepted-exactly}
use Rattle.stored.specs.Verifier.{verifier_size, verifier_from}
use Rattle.capi.specs.Set.Laws.{set-named}
use Rattle.capi.specs.Session.{Kept, verifier_new}
use Rattle.capi.specs.Verifier.{verifier_begin, verifier_begin_set, verifier_points, verifier_response, verifier_leaf, Judged, judged, verifier_opening}
use Rattle.capi.specs.Verifier.Follows.{Follows, new-follows, new-size, begin-follows, points-follows, response-follows, leaf-follows, opening-follows}

abbrev plain : Kept → Judged
plain r = judged r.number r.session []

unfoldable pub on_buffer : List ℕ → Call → Judged
on_buffer b (begin_call s) = plain (verifier_begin_set b (numbers_of s.parameters) s.runs s.message1)
on_buffer b (points_call m2) = plain (verifier_points b m2)
on_buffer b (response_call m3) = plain (verifier_response b m3)
on_buffer b (leaf_call is) = plain (verifier_leaf b is)
on_buffer b (opening_call m5 key work) = verifier_opening b m5 key work

unfoldable pub buffer_after : List ℕ → List Call → List ℕ
buffer_after b [] = (verifier_new b).session
buffer_after b (c ∷ cs) = (on_buffer (buffer_after b cs) c).session

abbrev pub shown : Judged → Seen
shown r = record { number = r.number; work = r.work }

pub record FollowsCall (r : Judged) (o : Called) : Type 0 where
  pub number : r.number ≡ o.answer
  pub session : verifier_from r.session ≡ o.verifier
  pub size : length r.session ≡ verifier_size
  pub work : r.work ≡ o.work

pub record Holds (b : List ℕ) (s : Verifier) : Type 0 where
  pub size : length b ≡ verifier_size
  pub session : verifier_from b ≡ s

plain_follows : (r : Kept) (o : verifier.Outcome) → Follows r o → FollowsCall (plain r) (record { answer = o.answer; verifier = o.verifier; work = [] })
plain_follows r o f = record { number = f.number; session = f.session; size = f.size; work = refl }

pub call-follows : (b : List ℕ) → length b ≡ verifier_size → (c : Call) → FollowsCall (on_buffer b c) (outcome SHAKE256 (verifier_from b) c)
unfolding on_buffer outcome
call-follows b size (begin_call s) =
    rw (set-named s.parameters (λ p. verifier_begin b p s.runs s.message1) _)
    (plain_follows _ _ (begin-follows b size s.parameters s.runs s.message1))
call-follows b size (points_call m2) = plain_follows _ _ (points-follows b size m2)
call-follows b size (response_call m3) = plain_follows _ _ (response-follows b size m3)
call-follows b size (leaf_call is) = plain_follows _ _ (leaf-follows b size is)
call-follows b size (opening_call m5 key work) =
    let f = opening-follows b size m5 key work in record { number = f.number; session = f.session; size = f.size; work = f.work }

module _ (b : List ℕ) (size : length b ≡ verifier_size) where
  pub run-follows : (cs : List Call) → Holds (buffer_after b cs) (after SHAKE256 cs)
  unfolding buffer_after after
  run-follows [] = record { size = new-size b size; session = new-follows b size }
  run-follows (c ∷ cs) =
      let h = run-follows cs in
      let f = call-follows (buffer_after b cs) h.size c in
      record { size = f.size; session = f.session ∙ ap (λ (s : Verifier). (outcome SHAKE256 s c).verifier) h.session }

  number-follows : (cs : List Call) (c : Call) → (on_buffer (buffer_after b cs) c).number ≡ (outcome SHAKE256 (after SHAKE256 cs) c).answer
  number-follows cs c =
      let h = run-follows cs in
      (call-follows (buffer_after b cs) h.size c).number ∙ ap (λ (s : Verifier). (outcome SHAKE256 s c).answer) h.session

  pub buffer-told : (cs : List Call) (c : Call) → shown (on_buffer (buffer_after b cs) c) ≡ expected SHAKE256 (made SHAKE256 cs) c
  buffer-told cs c =
      let h = run-follows cs in
      let f = call-follows (buffer_after b cs) h.size c in
      (λ i. record { number = f.number i; work = f.work i })
      ∙ ap (λ (s : Verifier). seen (outcome SHAKE256 s c)) h.session ∙ told-by-calls SHAKE256 cs c

  pub accepted-on-buffer : (cs : List Call) (m5 : List ℕ) (key : Key) (work : List ℕ)
      → ((on_buffer (buffer_after b cs) (opening_call m5 key work)).number ≡ 0) ↔ AcceptedAfter SHAKE256 cs m5 key work
  accepted-on-buffer cs m5 key work =
      let e = number-follows cs (opening_call m5 key work) in
      let exactly = accepted-exactly SHAKE256 cs m5 key work in
      (λ z. exactly.0 (sym e ∙ z), λ a. e ∙ exactly.1 a)
