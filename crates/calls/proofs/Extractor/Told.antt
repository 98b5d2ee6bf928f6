-- The extractor's call gives what document 01 says of it.
--
-- Given n                                what is expected of a call with the number n
-- second-given, first-given, early-given the second opening's checks, before them the first's, before them those before 5, give what is expected
-- told                                   the call is what is expected: answer, output and work area
-- number-told                            the number by itself
use Rattle.std.specs.Prelude.{◌≡◌, Bool, ◌&&◌, not, cond, List, [], ◌∷◌, ◌++◌, ℕ, eqb, Ok, Err}
use Rattle.std.proofs.Math.Path.{refl, ap}
use Rattle.std.proofs.Common.{sym, ap₂, ◌∙◌, eqb-true, ne_eqb}
use Rattle.std.proofs.Math.Bool.{true, false}
use Rattle.lists.specs.Zeroed.{zeroed}
use Rattle.lists.specs.Equal.{eq_list}
use Rattle.lists.specs.Checks.{all_true}
use Rattle.answers.specs.Answer.{Answer as Checked}
use Rattle.answers.specs.declared.Refusal.{Refusal}
use Rattle.answers.specs.declared.Refusal.TheVariants.{Parameter, Length, Leaf, Exchange as Differs, SameLeaf, SamePoint}
use Rattle.answers.specs.Number.{refusal_number, answer_number}
use Rattle.answers.specs.Number.Laws.{refused-not-0}
use Rattle.answers.specs.Checks.{checks}
use Rattle.answers.specs.Order.{holds, first_of, answer_of}
use Rattle.parameters.specs.declared.Parameters.{Parameters}
use Rattle.parameters.specs.Limits.{within_limits}
use Rattle.layout.specs.Layout.{work_length}
use Rattle.layout.specs.Runs.{runs_within}
use Rattle.exchange.specs.Values.{Key}
use Rattle.runs.specs.Opening.{Transcript, verdict}
use Rattle.runs.specs.Extractor.{Finding, unequal, states, extract}
use Rattle.calls.specs.Lengths.{leaves_below}
use Rattle.calls.specs.Judging.{opening_conditions, judged}
use Rattle.calls.proofs.Judging.Laws.{verdict-told, verdict-judged}
use Rattle.calls.specs.Extractor.{extract_lengths, both_distinct, same_statement, early_checks, found, second, first, early, extraction, Outcome, refused, number_of}
use Rattle.calls.specs.Extractor.Expected.{or_then, early_conditions, expected_number, shown, expected}

module _ (hash : List ℕ → ℕ → List ℕ) (p : Parameters) (runs : ℕ) (t t' : Transcript) (key : Key) (work out : List ℕ) where
  abbrev wiped : List ℕ
  wiped = zeroed (work_length p) work

  abbrev Given : ℕ → Outcome
  Given n =
      cond (eqb n 0) (shown hash p runs t t' key work out (extract hash p runs key t t' out))
      (record { answer = refused n; out = out; work = cond (judged n) wiped work })

  shown-found : (f : Finding) → found hash p runs t t' key work out f ≡ shown hash p runs t t' key work out f
  unfolding found shown
  shown-found (unequal run layer number) = refl
  shown-found (states run axis s) = refl

  -- a judged opening that is refused
  refused-given : (r : Refusal) → judged (refusal_number r) ≡ true
      → record { answer = refused (refusal_number r); out = out; work = wiped } ≡ Given (refusal_number r)
  refused-given r j = rw (j, ne_eqb (refusal_number r) 0 (refused-not-0 r))

  second-given : (a : Checked) → judged (answer_number a) ≡ true → second hash p runs t t' key work out a ≡ Given (answer_number a)
  unfolding second
  second-given (Ok _) j = shown-found (extract hash p runs key t t' out)
  second-given (Err r) j = refused-given r j

  first-given : (a : Checked) → judged (answer_number a) ≡ true
      → first hash p runs t t' key work out a ≡ Given (or_then (answer_number a) (answer_number (verdict hash p runs t' key)))
  unfolding first
  first-given (Ok _) j = second-given (verdict hash p runs t' key) (verdict-judged hash p runs t' key)
  first-given (Err r) j = rw (ne_eqb (refusal_number r) 0 (refused-not-0 r)) (refused-given r j)

  -- the checks before 5 in their order, then those of the openings
  early-given : (a b c d e f : Bool)
      → early hash p runs t t' key work out (checks ((a, Parameter) ∷ (b, Length) ∷ (c, SamePoint) ∷ (d, Leaf) ∷ (e, Differs) ∷ (not f, SameLeaf) ∷ []))
      ≡ Given
      (or_then (answer_of (((1, not a) ∷ (2, not b) ∷ (14, not c) ∷ (4, not d) ∷ (8, not e) ∷ (9, f) ∷ []) ++ opening_conditions hash p runs t key))
      (answer_of (opening_conditions hash p runs t' key)))
  unfolding early opening_conditions answer_of first_of holds
  early-given false b c d e f = refl
  early-given true false c d e f = refl
  early-given true true false d e f = refl
  early-given true true true false e f = refl
  early-given true true true true false f = refl
  early-given true true true true true true = refl
  early-given true true true true true false =
      first-given (verdict hash p runs t key) (verdict-judged hash p runs t key)
      ∙ ap Given (ap₂ or_then (verdict-told hash p runs t key) (verdict-told hash p runs t' key))

  pub told : extraction hash p runs t t' key work out ≡ expected hash p runs t t' key work out
  unfolding extraction early_checks expected expected_number early_conditions both_distinct same_statement
  told =
      early-given (within_limits p && runs_within runs) (all_true (extract_lengths hash p runs t t' key work out)) (both_distinct hash p runs t t' key work out)
      (leaves_below p t.leaves && leaves_below p t'.leaves) (same_statement hash p runs t t' key work out) (eq_list t.leaves t'.leaves)

  shown-number : (f : Finding) → number_of (shown hash p runs t t' key work out f).answer ≡ 0
  unfolding shown
  shown-number (unequal run layer number) = refl
  shown-number (states run axis s) = refl

  given-number : (n : ℕ) → number_of (Given n).answer ≡ n
  given-number n = go (eqb n 0) refl
    where
      go : (b : Bool) → eqb n 0 ≡ b
          → number_of (cond b (shown hash p runs t t' key work out (extract hash p runs key t t' out))
          (record { answer = refused n; out = out; work = cond (judged n) wiped work })).answer ≡ n
      go true e = shown-number (extract hash p runs key t t' out) ∙ sym (eqb-true n 0 e)
      go false e = refl

  pub number-told : number_of (extraction hash p runs t t' key work out).answer ≡ expected_number hash p runs t t' key work out
  unfolding expected
  number-told = ap (λ (o : Outcome). number_of o.answer) told ∙ given-number (expected_number hash p runs t t' key work out)
