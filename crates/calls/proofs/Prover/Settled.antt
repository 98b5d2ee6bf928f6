-- A prover's call is either carried out or refused, in every session.
--
-- checks_of s c      the checks of the call
-- done_of s c        what the call gives where all of them pass
-- settles           the call is settled by its checks
-- number-of         the number is that of the checks
-- carried           number 0: all checks passed, and the call was carried out
-- refused-same      any other number: session, output and work area are as they were
-- seen_as_lem       number, output and work area of a call, from its number
use Rattle.std.specs.Prelude.{◌≡◌, cond, List, ℕ, eqb, Ok, Err}
use Rattle.std.proofs.Math.Path.{refl}
use Rattle.std.proofs.Common.{sym, ap, ◌∙◌, ne_eqb}
use Rattle.answers.specs.Answer.{Answer}
use Rattle.answers.specs.Number.{refusal_number, answer_number}
use Rattle.answers.specs.Number.Laws.{refused-not-0}
use Rattle.calls.specs.Prover.{Prover, Outcome, settle, begin_checks, points_checks, leaf_checks, begun, answered, opened, begin, points, leaf}
use Rattle.calls.specs.Prover.History.{Call, begin_call, points_call, leaf_call, lent_out, lent_work, Seen, seen, outcome}

-- ---- by the answer of the checks

settle-number : (a : Answer) (s : Prover) (out work : List ℕ) (done : Outcome) → done.answer ≡ 0 → (settle a s out work done).answer ≡ answer_number a
settle-number (Ok _) s out work done d = d
settle-number (Err r) s out work done d = refl

settle-carried : (a : Answer) (s : Prover) (out work : List ℕ) (done : Outcome) → (settle a s out work done).answer ≡ 0
    → (a ≡ Ok tt) × (settle a s out work done ≡ done)
settle-carried (Ok _) s out work done e = (refl, refl)
settle-carried (Err r) s out work done e = absurd (refused-not-0 r e)

settle-refused : (a : Answer) (s : Prover) (out work : List ℕ) (done : Outcome) → done.answer ≡ 0 → ((settle a s out work done).answer ≡ 0 → ⊥)
    → settle a s out work done ≡ record { answer = (settle a s out work done).answer; prover = s; out = out; work = work }
settle-refused (Ok _) s out work done d e = absurd (e d)
settle-refused (Err r) s out work done d e = refl

abbrev seen_as : ℕ → List ℕ → List ℕ → List ℕ → List ℕ → Seen
seen_as n message zeros out work = record { number = n; out = cond (eqb n 0) message out; work = cond (eqb n 0) zeros work }

settle-seen : (a : Answer) (s : Prover) (out work : List ℕ) (done : Outcome) (message zeros : List ℕ) → done.answer ≡ 0
    → (a ≡ Ok tt → (done.out ≡ message) × (done.work ≡ zeros))
    → seen (settle a s out work done) ≡ seen_as (answer_number a) message zeros out work
settle-seen (Ok _) s out work done message zeros d gives = rw (d, (gives refl).0, (gives refl).1)
settle-seen (Err r) s out work done message zeros d gives = rw (ne_eqb (refusal_number r) 0 (refused-not-0 r))

-- ---- of a call

module _ (hash : List ℕ → ℕ → List ℕ) (s : Prover) where
  abbrev pub checks_of : Call → Answer
  checks_of (begin_call b work out) = begin_checks hash s b.parameters b.runs b.x_a b.salt b.root b.key work out
  checks_of (points_call m2 key work out) = points_checks hash s m2 key work out
  checks_of (leaf_call is key work out) = leaf_checks hash s is key work out

  abbrev pub done_of : Call → Outcome
  done_of (begin_call b work out) = begun hash s b.parameters b.runs b.x_a b.salt b.root b.key work out
  done_of (points_call m2 key work out) = answered hash s m2 key work out
  done_of (leaf_call is key work out) = opened hash s is key work out

  done-number : (c : Call) → (done_of c).answer ≡ 0
  unfolding begun answered opened
  done-number (begin_call b work out) = refl
  done-number (points_call m2 key work out) = refl
  done-number (leaf_call is key work out) = refl

  pub settles : (c : Call) → outcome hash s c ≡ settle (checks_of c) s (lent_out c) (lent_work c) (done_of c)
  unfolding outcome begin points leaf
  settles (begin_call b work out) = refl
  settles (points_call m2 key work out) = refl
  settles (leaf_call is key work out) = refl

  pub number-of : (c : Call) → (outcome hash s c).answer ≡ answer_number (checks_of c)
  number-of c = ap (λ (o : Outcome). o.answer) (settles c) ∙ settle-number (checks_of c) s (lent_out c) (lent_work c) (done_of c) (done-number c)

  pub carried : (c : Call) → (outcome hash s c).answer ≡ 0 → (checks_of c ≡ Ok tt) × (outcome hash s c ≡ done_of c)
  carried c e =
      let q = settle-carried (checks_of c) s (lent_out c) (lent_work c) (done_of c) (ap (λ (o : Outcome). o.answer) (sym (settles c)) ∙ e) in
      (q.0, settles c ∙ q.1)

  pub refused-same : (c : Call) → ((outcome hash s c).answer ≡ 0 → ⊥)
      → outcome hash s c ≡ record { answer = (outcome hash s c).answer; prover = s; out = lent_out c; work = lent_work c }
  refused-same c e =
      let number : (outcome hash s c).answer ≡ (settle (checks_of c) s (lent_out c) (lent_work c) (done_of c)).answer = ap (λ (o : Outcome). o.answer) (settles c) in
      settles c ∙ settle-refused (checks_of c) s (lent_out c) (lent_work c) (done_of c) (done-number c) (λ z. e (number ∙ z))
      ∙ ap (λ (n : ℕ). record { answer = n; prover = s; out = lent_out c; work = lent_work c }) (sym number)

  pub seen_as_lem : (c : Call) (n : ℕ) (message zeros : List ℕ) → answer_number (checks_of c) ≡ n
      → (checks_of c ≡ Ok tt → ((done_of c).out ≡ message) × ((done_of c).work ≡ zeros))
      → seen (outcome hash s c) ≡ seen_as n message zeros (lent_out c) (lent_work c)
  seen_as_lem c n message zeros e gives =
      ap seen (settles c) ∙ settle-seen (checks_of c) s (lent_out c) (lent_work c) (done_of c) message zeros (done-number c) gives
      ∙ ap (λ (k : ℕ). seen_as k message zeros (lent_out c) (lent_work c)) e
