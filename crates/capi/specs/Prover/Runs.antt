-- Runs of the prover's calls on one session buffer that nobody else writes.
--
-- on_buffer b c         the call on the bytes b
-- buffer_after b cs     the bytes after `unlock_prover_new` on the buffer b and the calls cs, the latest call first
-- shown r              number, output and work area of a call on bytes
-- call-follows         a call on bytes does what the call by value does on the session that they are
-- run-follows          the bytes after a run are the session after the same calls by value
-- buffer-told          each call of a run gives what document 01 says of it by the calls that came before
-- carried_on kind b cs  how many calls of a kind are carried out among the calls cs on the bytes b; here the first call stands first
-- one-on-buffer        'at most one response and one opening between two starts of a prover's exchange', from any bytes
use Rattle.std.specs.Prelude.{◌≡◌, refl, Bool, ◌&&◌, cond, ℕ, ◌+◌, ◌≤◌, eqb, length}
use Rattle.std.proofs.Common.{sym, ap₂, ◌∙◌, arith}
use Rattle.std.proofs.Math.Path.{ap}
use mathlib.Core.List.{List, [], ◌∷◌}
use Rattle.parameters.specs.Set.{numbers_of}
use Rattle.shake256.specs.Fips.{SHAKE256}
use Rattle.calls.specs.Prover.{Prover}
use Rattle.calls.specs.Prover.History.{Call, begin_call, points_call, leaf_call, outcome, after, made, Seen, seen, expected}
use Rattle.calls.proofs.Prover.Told.{told-by-calls}
use Rattle.calls.specs.Prover.AnySession.{is_begin, is_points, is_leaf, carried_in}
use Rattle.calls.proofs.Prover.AnySession.{at_most_one}
use Rattle.stored.specs.Prover.{prover_size, prover_from}
use Rattle.capi.specs.Set.Laws.{set-named}
use Rattle.capi.specs.Session.{prover_new}
use Rattle.capi.specs.Prover.{Outcome, prover_begin, prover_begin_set, prover_points, prover_leaf}
use Rattle.capi.specs.Prover.Follows.{Follows, new-follows, new-size, begin-follows, points-follows, leaf-follows}

unfoldable pub on_buffer : List ℕ → Call → Outcome
on_buffer b (begin_call s work out) = prover_begin_set b (numbers_of s.parameters) s.runs s.x_a s.salt s.root s.key work out
on_buffer b (points_call m2 key work out) = prover_points b m2 key work out
on_buffer b (leaf_call is key work out) = prover_leaf b is key work out

unfoldable pub buffer_after : List ℕ → List Call → List ℕ
buffer_after b [] = (prover_new b).session
buffer_after b (c ∷ cs) = (on_buffer (buffer_after b cs) c).session

abbrev pub shown : Outcome → Seen
shown r = record { number = r.number; out = r.out; work = r.work }

unfoldable pub carried_on : (Call → Bool) → List ℕ → List Call → ℕ
carried_on kind b [] = 0
carried_on kind b (c ∷ cs) = cond (kind c && eqb (on_buffer b c).number 0) 1 0 + carried_on kind (on_buffer b c).session cs

pub call-follows : (b : List ℕ) → length b ≡ prover_size → (c : Call) → Follows (on_buffer b c) (outcome SHAKE256 (prover_from b) c)
unfolding on_buffer outcome
call-follows b size (begin_call s work out) =
    rw (set-named s.parameters (λ p. prover_begin b p s.runs s.x_a s.salt s.root s.key work out) _)
    (begin-follows b size s.parameters s.runs s.x_a s.salt s.root s.key work out)
call-follows b size (points_call m2 key work out) = points-follows b size m2 key work out
call-follows b size (leaf_call is key work out) = leaf-follows b size is key work out

pub record Holds (b : List ℕ) (s : Prover) : Type 0 where
  pub size : length b ≡ prover_size
  pub session : prover_from b ≡ s

module _ (b : List ℕ) (size : length b ≡ prover_size) where
  pub run-follows : (cs : List Call) → Holds (buffer_after b cs) (after SHAKE256 cs)
  unfolding buffer_after after
  run-follows [] = record { size = new-size b size; session = new-follows b size }
  run-follows (c ∷ cs) =
      let h = run-follows cs in
      let f = call-follows (buffer_after b cs) h.size c in
      record { size = f.size; session = f.session ∙ ap (λ (s : Prover). (outcome SHAKE256 s c).prover) h.session }

  pub buffer-told : (cs : List Call) (c : Call) → shown (on_buffer (buffer_after b cs) c) ≡ expected SHAKE256 (made SHAKE256 cs) c
  buffer-told cs c =
      let h = run-follows cs in
      let f = call-follows (buffer_after b cs) h.size c in
      (λ i. record { number = f.number i; out = f.out i; work = f.work i })
      ∙ ap (λ (s : Prover). seen (outcome SHAKE256 s c)) h.session ∙ told-by-calls SHAKE256 cs c

carried_same : (kind : Call → Bool) (b : List ℕ) → length b ≡ prover_size → (cs : List Call) → carried_on kind b cs ≡ carried_in SHAKE256 kind (prover_from b) cs
unfolding carried_on carried_in
carried_same kind b size [] = refl
carried_same kind b size (c ∷ cs) =
    let f = call-follows b size c in
    ap₂ (λ (n m : ℕ). cond (kind c && eqb n 0) 1 0 + m) f.number
    (carried_same kind (on_buffer b c).session f.size cs ∙ ap (λ (s : Prover). carried_in SHAKE256 kind s cs) f.session)

pub one-on-buffer : (b : List ℕ) → length b ≡ prover_size → (cs : List Call) → carried_on is_begin b cs ≡ 0
    → (carried_on is_points b cs ≤ 1) × (carried_on is_leaf b cs ≤ 1)
one-on-buffer b size cs h =
    let most = at_most_one SHAKE256 (prover_from b) cs (sym (carried_same is_begin b size cs) ∙ h) in
    let p = carried_same is_points b size cs in
    let l = carried_same is_leaf b size cs in
    (omega arith, omega arith)
