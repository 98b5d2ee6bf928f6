-- The laws of the prover's calls on bytes.
--
-- Limits s                                   parameters and run count of a session are within their limits
-- begin-within, points-within, leaf-within   after a call that was carried out, those held are
-- kept_small                                 so each is a byte
-- begin-unnamed, begin-named                 begin with a set of another count of numbers, and with one of five
-- call-misfit                                a buffer of another length
-- call_kept                                  the call on a buffer of the length, from what it answered and what was kept
use Rattle.std.specs.Prelude.{◌≡◌, refl, not, ◌&&◌, List, ℕ, length, Ok, Err}
use Rattle.std.proofs.Common.{sym, ◌∙◌}
use Rattle.std.proofs.Math.Path.{ap}
use Rattle.lists.specs.Checks.Laws.{and_left, and_right}
use Rattle.answers.specs.Number.{refusal_number}
use Rattle.answers.specs.Number.Laws.{refused-not-0}
use Rattle.answers.specs.Answer.{Answer}
use Rattle.answers.specs.declared.Refusal.TheVariants.{Parameter, Length, NotDue, Closed as ExchangeClosed}
use Rattle.answers.specs.Checks.Laws.{check-true, check-rest}
use Rattle.parameters.specs.declared.Parameters.{Parameters}
use Rattle.parameters.specs.Limits.{within_limits, Within}
use Rattle.parameters.specs.Limits.Laws.{test-within}
use Rattle.parameters.specs.Set.{set_length, parameters_of}
use Rattle.layout.specs.Runs.{runs_within}
use Rattle.layout.specs.Runs.Laws.{RunsWithin, runs-within}
use Rattle.exchange.specs.Values.{Key}
use Rattle.calls.specs.Prover.{Prover, Outcome as Called, settle, closed, points_due, leaf_due, begin, begin_checks, begun, points, points_checks, answered, leaf, leaf_checks, opened}
use Rattle.prover.specs.Checks.{points-ready, leaf-ready}
use Rattle.stored.specs.Parameters.{Small, within-small}
use Rattle.stored.specs.Prover.{prover_size, prover_bytes, prover_from}
use Rattle.capi.specs.Set.Laws.{set-not, set_so}
use Rattle.capi.specs.Session.{Kept, kept, after}
use Rattle.stored.proofs.Laws.Buffer.{fits_not, fits-so}
use Rattle.capi.specs.Prover.{Outcome, given, prover_after, prover_call, prover_begin, prover_begin_set}

-- ---- parameters and run count after a call that was carried out

pub record Limits (s : Prover) : Type 0 where
  pub within : Within s.parameters
  pub runs : RunsWithin s.runs

settled : (a : Answer) (s : Prover) (out work : List ℕ) (done : Called) → (a ≡ Ok tt → Limits done.prover)
    → (settle a s out work done).answer ≡ 0 → Limits (settle a s out work done).prover
settled (Ok _) s out work done within e = within refl
settled (Err r) s out work done within e = absurd (refused-not-0 r e)

module _ (hash : List ℕ → ℕ → List ℕ) (s : Prover) where
  pub begin-within : (p : Parameters) (runs : ℕ) (x_a salt root : List ℕ) (key : Key) (work out : List ℕ)
      → (begin hash s p runs x_a salt root key work out).answer ≡ 0 → Limits (begin hash s p runs x_a salt root key work out).prover
  unfolding begin begin_checks begun
  begin-within p runs x_a salt root key work out =
      settled (begin_checks hash s p runs x_a salt root key work out) s out work (begun hash s p runs x_a salt root key work out)
      (λ e. let both = check-true (within_limits p && runs_within runs) Parameter _ e in record {
        within = test-within p (and_left (within_limits p) (runs_within runs) both);
        runs = runs-within runs (and_right (within_limits p) (runs_within runs) both);
      })

  pub points-within : (m2 : List ℕ) (key : Key) (work out : List ℕ) → (points hash s m2 key work out).answer ≡ 0
      → Limits (points hash s m2 key work out).prover
  unfolding points points_checks answered
  points-within m2 key work out =
      settled (points_checks hash s m2 key work out) s out work (answered hash s m2 key work out)
      (λ e. let h = points-ready s (check-true (points_due s) NotDue _ (check-rest (not (closed s)) ExchangeClosed _ e)) in
      record { within = h.limits.within; runs = h.limits.counted })

  pub leaf-within : (is : List ℕ) (key : Key) (work out : List ℕ) → (leaf hash s is key work out).answer ≡ 0
      → Limits (leaf hash s is key work out).prover
  unfolding leaf leaf_checks opened
  leaf-within is key work out =
      settled (leaf_checks hash s is key work out) s out work (opened hash s is key work out)
      (λ e. let h = leaf-ready s (check-true (leaf_due s) NotDue _ (check-rest (not (closed s)) ExchangeClosed _ e)) in
      record { within = h.limits.within; runs = h.limits.counted })

pub kept_small : (o o' : Called) → o ≡ o' → (o'.answer ≡ 0 → Limits o'.prover) → o.answer ≡ 0
    → Small o.prover.parameters o.prover.runs
kept_small o o' e limits done =
    let h = limits (sym (ap (λ (z : Called). z.answer) e) ∙ done) in
    rw e (within-small _ _ h.within h.runs)

-- ---- a call

module _ (b : List ℕ) (m : ℕ) (work out : List ℕ) (call : Prover → Called) where
  pub call-misfit : (n : ℕ) → n ≡ m → (length b ≡ prover_size → ⊥) → given n b out work ≡ prover_call b m work out call
  unfolding prover_call
  call-misfit n e h = rw e (fits_not b prover_size (prover_after b (call (prover_from b))) (given m b out work) h)

  pub call_kept : (s : Prover) (o : Called) (n : ℕ) (b' : List ℕ) → length b ≡ prover_size → s ≡ prover_from b → o ≡ call s
      → kept n b' ≡ kept o.answer (after o.answer b (prover_bytes o.prover))
      → given n b' o.out o.work ≡ prover_call b m work out call
  unfolding prover_call prover_after
  call_kept s o n b' e s-is o_is is =
      ap (λ (z : Kept). given z.number z.session o.out o.work) is
      ∙ ap (prover_after b) (o_is ∙ ap call s-is)
      ∙ fits-so b prover_size (prover_after b (call (prover_from b))) (given m b out work) e

-- ---- begin with a set

module _ (b ns : List ℕ) (runs : ℕ) (x_a salt root : List ℕ) (key : Key) (work out : List ℕ) where
  abbrev with : Parameters → Outcome
  with p = prover_begin b p runs x_a salt root key work out

  pub begin-unnamed : (length ns ≡ set_length → ⊥) → given (refusal_number Length) b out work ≡ prover_begin_set b ns runs x_a salt root key work out
  begin-unnamed h = set-not ns with (given (refusal_number Length) b out work) h

  pub begin-named : (p : Parameters) (r : Outcome) → length ns ≡ set_length → p ≡ parameters_of ns → r ≡ with p → r ≡ prover_begin_set b ns runs x_a salt root key work out
  begin-named p r e is so = so ∙ set_so ns with (given (refusal_number Length) b out work) p e is
