-- What a call leaves, from every session.
--
-- begin-due        'Begin is due always': it never gets 11 or 12
-- damaged-shut     a session that is not fresh and not intact gives 12 to every call but begin
-- refused-same     a call that is neither carried out nor a judged opening leaves session and work area as they were: 'all others leave the
--                  session unchanged', 'before that it is untouched'
-- judged-ended     a judged opening closes the session and leaves the named length of the work area zeros: '5, 6, 7 close the verifier',
--                  'Closing changes nothing else that a session holds'
-- ended-closed     such a session is closed
use Rattle.std.specs.Prelude.{◌≡◌, not, cond, ◌||◌, ◌&&◌, List, [], ◌∷◌, length, Ok, Err}
use Rattle.std.proofs.Math.Path.{refl}
use Rattle.std.proofs.Common.{sym, ◌∙◌, true≢false, arith}
use Rattle.std.proofs.Math.Bool.{Bool, true, false}
use Rattle.std.proofs.lemmas.Bool.{false≢true}
use Prim.Native.Nat.{ℕ}
use Rattle.std.proofs.Math.Dec.{eqb}
use Rattle.lists.specs.Zeroed.{zeroed}
use Rattle.lists.specs.Checks.{all_true}
use Rattle.answers.specs.Answer.{Answer}
use Rattle.answers.specs.declared.Refusal.TheVariants.{Parameter, Length, NotDue, Closed as ExchangeClosed}
use Rattle.answers.specs.Checks.{checks}
use Rattle.parameters.specs.Limits.{within_limits}
use Rattle.layout.specs.Layout.{work_length}
use Rattle.layout.specs.Runs.{runs_within, message1_length}
use Rattle.exchange.specs.Values.{Key}
use Rattle.verifier_phase.specs.declared.Phase.TheVariants.{Fresh, Closed}
use Rattle.calls.specs.Held.{is_some}
use Rattle.calls.specs.Lengths.{opening_lengths}
use Rattle.calls.specs.Judging.{judged}
use Rattle.calls.proofs.Judging.Laws.{verdict-judged}
use Rattle.calls.specs.Verifier.{Verifier, Judged, settle, intact, standing, closed, due, step, held_leaves, held_transcript, begin, begin_checks, begun, points, points_checks, pointed, response, response_checks, responded, leaf, leaf_checks, chosen, ended, opening_checks, judge, opening}
use Rattle.calls.specs.Verifier.History.{Begin, Call, begin_call, points_call, response_call, leaf_call, opening_call, lent_work, begin_in, opened, outcome}
use Rattle.calls.specs.Verifier.Since.{counted}

settle-same : (a : Answer) (s next : Verifier) → (eqb (settle a s next).answer 0 || (judged (settle a s next).answer && false)) ≡ false
    → (settle a s next).verifier ≡ s
settle-same (Ok _) s next e = absurd (true≢false e)
settle-same (Err r) s next e = refl

module _ (hash : List ℕ → ℕ → List ℕ) (s : Verifier) where
  pub begin-due : (b : Begin) → ((outcome hash s (begin_call b)).answer ≡ 11 → ⊥) × ((outcome hash s (begin_call b)).answer ≡ 12 → ⊥)
  unfolding outcome begin begin_checks
  begin-due b = go (within_limits b.parameters && runs_within b.runs) (eqb (length b.message1) (message1_length b.runs))
    where
      number : Bool → Bool → ℕ
      number x y = (settle (checks ((x, Parameter) ∷ (y, Length) ∷ [])) s (begun b.parameters b.runs b.message1)).answer

      go : (x y : Bool) → (number x y ≡ 11 → ⊥) × (number x y ≡ 12 → ⊥)
      go true true = omega arith
      go true false = omega arith
      go false y = omega arith

  pub damaged-shut : eqb (step s.phase) (step Fresh) ≡ false → intact s ≡ false → (c : Call) → is_some (begin_in c) ≡ false
      → (outcome hash s c).answer ≡ 12
  unfolding outcome points points_checks response response_checks leaf leaf_checks opening opening_checks judge closed standing
  damaged-shut f d (begin_call b) e = absurd (true≢false e)
  damaged-shut f d (points_call m2) e = rw (f, d)
  damaged-shut f d (response_call m3) e = rw (f, d)
  damaged-shut f d (leaf_call is) e = rw (f, d)
  damaged-shut f d (opening_call m5 key work) e = rw (f, d)

  pub ended-closed : closed (ended s) ≡ true
  unfolding closed standing ended
  ended-closed = go (intact (ended s))
    where
      go : (b : Bool) → eqb (step (cond b Closed Closed)) (step Closed) ≡ true
      go true = refl
      go false = refl

  module _ (m5 : List ℕ) (key : Key) (work : List ℕ) where
    -- the opening, from whether the exchange is open, the call is due and the lengths pass
    abbrev opening_from : Bool → Bool → Bool → Judged
    opening_from x y z = judge hash s m5 key work (checks ((x, ExchangeClosed) ∷ (y, NotDue) ∷ (z, Length) ∷ []))

    early-same : (x y z : Bool) → judged (opening_from x y z).answer ≡ false → ((opening_from x y z).verifier ≡ s) × ((opening_from x y z).work ≡ work)
    unfolding judge
    early-same true true true e = absurd (true≢false (sym (verdict-judged hash s.parameters _ (held_transcript s m5) key) ∙ e))
    early-same true true false e = (refl, refl)
    early-same true false z e = (refl, refl)
    early-same false y z e = (refl, refl)

    judged-from : (x y z : Bool) → judged (opening_from x y z).answer ≡ true
        → ((opening_from x y z).verifier ≡ ended s) × ((opening_from x y z).work ≡ zeroed (work_length s.parameters) work)
    unfolding judge
    judged-from true true true e = (refl, refl)
    judged-from true true false e = absurd (false≢true e)
    judged-from true false z e = absurd (false≢true e)
    judged-from false y z e = absurd (false≢true e)

    pub judged-ended : judged (outcome hash s (opening_call m5 key work)).answer ≡ true
        → ((outcome hash s (opening_call m5 key work)).verifier ≡ ended s)
        × ((outcome hash s (opening_call m5 key work)).work ≡ zeroed (work_length s.parameters) work)
    unfolding outcome opening opening_checks
    judged-ended e = judged-from (not (closed s)) (due s _) (all_true (opening_lengths s.parameters (held_leaves s) m5 key work)) e

    opening-same : judged (outcome hash s (opening_call m5 key work)).answer ≡ false
        → ((outcome hash s (opening_call m5 key work)).verifier ≡ s) × ((outcome hash s (opening_call m5 key work)).work ≡ work)
    unfolding outcome opening opening_checks
    opening-same e = early-same (not (closed s)) (due s _) (all_true (opening_lengths s.parameters (held_leaves s) m5 key work)) e

  pub refused-same : (c : Call) → counted (record { call = c; number = (outcome hash s c).answer }) ≡ false
      → ((outcome hash s c).verifier ≡ s) × ((outcome hash s c).work ≡ lent_work c)
  unfolding outcome counted opened begin points response leaf
  refused-same (begin_call b) e = (settle-same (begin_checks b.parameters b.runs b.message1) s (begun b.parameters b.runs b.message1) e, refl)
  refused-same (points_call m2) e = (settle-same (points_checks s m2) s (pointed s m2) e, refl)
  refused-same (response_call m3) e = (settle-same (response_checks s m3) s (responded s m3) e, refl)
  refused-same (leaf_call is) e = (settle-same (leaf_checks s is) s (chosen s is) e, refl)
  refused-same (opening_call m5 key work) e = opening-same m5 key work (not-judged (eqb n 0) (judged n) e)
    where
      n : ℕ
      n = (outcome hash s (opening_call m5 key work)).answer

      not-judged : (x y : Bool) → (x || (y && true)) ≡ false → y ≡ false
      not-judged true y q = absurd (true≢false q)
      not-judged false true q = q
      not-judged false false q = refl
