-- The laws of the verifier's calls on bytes.
--
-- Limits p runs                   parameters and run count are within their limits
-- due-within                      where the checks of a call that is due in an inner phase pass, they are
-- begin-within, points-within, response-within, leaf-within   after a call that was carried out, those held are
-- opening-within                  and after an opening that was judged
-- kept_small, judged-small        so each is a byte
-- begin-unnamed, begin-named      begin with a set of another count of numbers, and with one of five
-- call-misfit, opening-misfit     a buffer of another length
-- call_kept, opening-kept         the call on a buffer of the length, from what it answered and what was kept
use Rattle.std.specs.Prelude.{◌≡◌, Bool, ◌&&◌, not, cond, List, ℕ, length, Ok, Err}
use Rattle.std.proofs.Math.Path.{refl, ap}
use Rattle.std.proofs.Common.{sym, ◌∙◌}
use Rattle.std.proofs.Math.Bool.{true, false}
use Rattle.std.proofs.lemmas.Bool.{false≢true}
use Rattle.lists.specs.Checks.{all_true}
use Rattle.lists.specs.Checks.Laws.{and_left, and_right}
use Rattle.answers.specs.Number.{refusal_number}
use Rattle.answers.specs.Number.Laws.{refused-not-0}
use Rattle.answers.specs.Answer.{Answer}
use Rattle.answers.specs.declared.Refusal.TheVariants.{Parameter, Length, NotDue, Closed as ExchangeClosed}
use Rattle.answers.specs.Checks.{check}
use Rattle.answers.specs.Checks.Laws.{check-true}
use Rattle.parameters.specs.declared.Parameters.{Parameters}
use Rattle.parameters.specs.Limits.{within_limits, Within}
use Rattle.parameters.specs.Limits.Laws.{test-within}
use Rattle.parameters.specs.Set.{set_length, parameters_of}
use Rattle.layout.specs.Runs.{runs_within}
use Rattle.layout.specs.Runs.Laws.{RunsWithin, runs-within}
use Rattle.shake256.specs.Fips.{SHAKE256}
use Rattle.exchange.specs.Values.{Key}
use Rattle.verifier_phase.specs.declared.Phase.{Phase}
use Rattle.verifier_phase.specs.declared.Phase.TheVariants.{Begun, Pointed, Responded, Chosen}
use Rattle.calls.specs.Lengths.{opening_lengths}
use Rattle.calls.specs.Verifier.{Verifier, Outcome as Called, Judged as Opened, settle, closed, due, held_leaves, begin, begin_checks, begun, points, points_checks, pointed, response, response_checks, responded, leaf, leaf_checks, chosen, opening, opening_checks, judge, ended}
use Rattle.verifier.specs.Laws.{Inner, due-intact, held-within, held-runs, opening-passed}
use Rattle.stored.specs.Parameters.{Small, within-small}
use Rattle.stored.specs.Verifier.{verifier_size, verifier_bytes, verifier_from}
use Rattle.capi.specs.Set.Laws.{set-not, set_so}
use Rattle.capi.specs.Session.{Kept, kept, after}
use Rattle.stored.proofs.Laws.Buffer.{fits_not, fits-so}
use Rattle.capi.specs.Verifier.{verifier_after, verifier_call, verifier_begin, verifier_begin_set, Judged, judged, judges, opening_after, verifier_opening}

-- ---- parameters and run count after a call that was carried out

pub record Limits (p : Parameters) (runs : ℕ) : Type 0 where
  pub within : Within p
  pub counted : RunsWithin runs

abbrev Held : Verifier → Type 0
Held s = Limits s.parameters s.runs

settled : (a : Answer) (s next : Verifier) → (a ≡ Ok tt → Held next) → (settle a s next).answer ≡ 0 → Held (settle a s next).verifier
settled (Ok _) s next within e = within refl
settled (Err r) s next within e = absurd (refused-not-0 r e)

due-within : (s : Verifier) (here : Phase) (rest : Answer) → Inner here → check (not (closed s)) ExchangeClosed (check (due s here) NotDue rest) ≡ Ok tt
    → Held s
due-within s here rest inner e = let i = due-intact s here rest e inner in record { within = held-within s i; counted = held-runs s i }

module _ (s : Verifier) where
  pub begin-within : (p : Parameters) (runs : ℕ) (m1 : List ℕ) → (begin s p runs m1).answer ≡ 0 → Held (begin s p runs m1).verifier
  unfolding begin begin_checks begun
  begin-within p runs m1 =
      settled (begin_checks p runs m1) s (begun p runs m1)
      (λ e. let both = check-true (within_limits p && runs_within runs) Parameter _ e in record {
        within = test-within p (and_left (within_limits p) (runs_within runs) both);
        counted = runs-within runs (and_right (within_limits p) (runs_within runs) both);
      })

  pub points-within : (m2 : List ℕ) → (points s m2).answer ≡ 0 → Held (points s m2).verifier
  unfolding points points_checks pointed
  points-within m2 = settled (points_checks s m2) s (pointed s m2) (λ e. due-within s Begun _ record { begun = refl; still = refl } e)

  pub response-within : (m3 : List ℕ) → (response s m3).answer ≡ 0 → Held (response s m3).verifier
  unfolding response response_checks responded
  response-within m3 = settled (response_checks s m3) s (responded s m3) (λ e. due-within s Pointed _ record { begun = refl; still = refl } e)

  pub leaf-within : (is : List ℕ) → (leaf s is).answer ≡ 0 → Held (leaf s is).verifier
  unfolding leaf leaf_checks chosen
  leaf-within is = settled (leaf_checks s is) s (chosen s is) (λ e. due-within s Responded _ record { begun = refl; still = refl } e)

pub kept_small : (o o' : Called) → o ≡ o' → (o'.answer ≡ 0 → Held o'.verifier) → o.answer ≡ 0
    → Small o.verifier.parameters o.verifier.runs
kept_small o o' e limits done =
    let h = limits (sym (ap (λ (z : Called). z.answer) e) ∙ done) in
    rw e (within-small _ _ h.within h.counted)

-- ---- a call but the opening

module _ (b : List ℕ) (m : ℕ) (call : Verifier → Called) where
  pub call-misfit : (n : ℕ) → n ≡ m → (length b ≡ verifier_size → ⊥) → kept n b ≡ verifier_call b m call
  unfolding verifier_call
  call-misfit n e h = rw e (fits_not b verifier_size (verifier_after b (call (verifier_from b))) (kept m b) h)

  pub call_kept : (s : Verifier) (o : Called) (n : ℕ) (b' : List ℕ) → length b ≡ verifier_size → s ≡ verifier_from b → o ≡ call s
      → kept n b' ≡ kept o.answer (after o.answer b (verifier_bytes o.verifier))
      → kept n b' ≡ verifier_call b m call
  unfolding verifier_call verifier_after
  call_kept s o n b' e s-is o_is is =
      is ∙ ap (verifier_after b) (o_is ∙ ap call s-is) ∙ fits-so b verifier_size (verifier_after b (call (verifier_from b))) (kept m b) e

-- ---- begin with a set

module _ (b ns : List ℕ) (runs : ℕ) (m1 : List ℕ) where
  abbrev with : Parameters → Kept
  with p = verifier_begin b p runs m1

  pub begin-unnamed : (length ns ≡ set_length → ⊥) → kept (refusal_number Length) b ≡ verifier_begin_set b ns runs m1
  begin-unnamed h = set-not ns with (kept (refusal_number Length) b) h

  pub begin-named : (p : Parameters) (r : Kept) → length ns ≡ set_length → p ≡ parameters_of ns → r ≡ with p → r ≡ verifier_begin_set b ns runs m1
  begin-named p r e is so = so ∙ set_so ns with (kept (refusal_number Length) b) p e is

-- ---- the opening

module _ (hash : List ℕ → ℕ → List ℕ) (s : Verifier) (m5 : List ℕ) (key : Key) (work : List ℕ) where
  judged-within : (a b c : Bool) → (check a ExchangeClosed (check b NotDue (check c Length (Ok tt))) ≡ Ok tt → Held s)
      → judges (judge hash s m5 key work (check a ExchangeClosed (check b NotDue (check c Length (Ok tt))))).answer ≡ true
      → Held (judge hash s m5 key work (check a ExchangeClosed (check b NotDue (check c Length (Ok tt))))).verifier
  unfolding judge ended
  judged-within true true true within e = let h = within refl in record { within = h.within; counted = h.counted }
  judged-within true true false within e = absurd (false≢true e)
  judged-within true false c within e = absurd (false≢true e)
  judged-within false b c within e = absurd (false≢true e)

  pub opening-within : judges (opening hash s m5 key work).answer ≡ true → Held (opening hash s m5 key work).verifier
  unfolding opening opening_checks
  opening-within =
      judged-within (not (closed s)) (due s Chosen) (all_true (opening_lengths s.parameters (held_leaves s) m5 key work))
      (λ e. let h = opening-passed hash s m5 key work e in record { within = h.within; counted = h.counted })

pub judged-small : (o o' : Opened) → o ≡ o' → (judges o'.answer ≡ true → Held o'.verifier)
    → judges o.answer ≡ true → Small o.verifier.parameters o.verifier.runs
judged-small o o' e limits so =
    let h = limits (sym (ap (λ (z : Opened). judges z.answer) e) ∙ so) in
    rw e (within-small _ _ h.within h.counted)

module _ (b m5 : List ℕ) (key : Key) (work : List ℕ) where
  abbrev other : Judged
  other = judged (refusal_number Length) b work

  abbrev call : Verifier → Opened
  call s = opening SHAKE256 s m5 key work

  pub opening-misfit : (length b ≡ verifier_size → ⊥) → other ≡ verifier_opening b m5 key work
  unfolding verifier_opening
  opening-misfit h = fits_not b verifier_size (opening_after b (call (verifier_from b))) other h

  pub opening-kept : (s : Verifier) (o : Opened) (n : ℕ) (b' : List ℕ) → length b ≡ verifier_size → s ≡ verifier_from b → o ≡ call s
      → kept n b' ≡ kept o.answer (cond (judges o.answer) (verifier_bytes o.verifier) b)
      → judged n b' o.work ≡ verifier_opening b m5 key work
  unfolding verifier_opening opening_after
  opening-kept s o n b' e s-is o_is is =
      ap (λ (z : Kept). judged z.number z.session o.work) is
      ∙ ap (opening_after b) (o_is ∙ ap call s-is)
      ∙ fits-so b verifier_size (opening_after b (call (verifier_from b))) other e
