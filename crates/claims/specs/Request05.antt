-- Document 02's request 05 at SHAKE256: 'Show that the sums of α, β and v agree on all axes for every opening that gets that far, then drop the
-- check; the number stays unused and no verdict changes.'
--
-- Agreement hash         the sums agree on all axes, for all parameters, messages and keys: so for every opening that gets as far as its verdict,
--                        whoever made it, at the verifier and at the extractor
-- sums_agree n            document 01's check, as a test: the sums on each axis below n are those on the first axis
-- sums_differ             its number 6: 'sums of α, β or v differ between axes'
-- refused_with6           the lowest refused run, with that check in its place; the run count where none is refused
-- conditions_with6        5, 6 and 7 of that run
-- opening_with6           the conditions of the verifier's opening after the calls h, with 6 among them
-- straight_after a n ns   the numbers ns with n straight after a
-- order_with6             the order with 6 straight after 5: so document 01's, with 14 'straight after 2' (`as-document-01`)
-- answer_with6 cs         the answer by that order
-- SameAnswers hash       'no verdict changes': every verdict, every opening of the verifier after any calls and every call of the extractor has
--                        the number that it has with the check in its place
-- Unused hash            'the number stays unused': it is no answer's, and no call answers it, of any session or of the extractor
-- Request05              all of it
use Rattle.std.specs.Prelude.{◌≡◌, Bool, true, ◌&&◌, ◌||◌, cond, eqb, ltb}
use Rattle.std.proofs.Math.Bool.{not}
use mathlib.Core.List.{List, [], ◌∷◌, ◌++◌}
use Prim.Native.Nat.{ℕ, zero, suc, ◌<◌}
use Rattle.lists.specs.Checks.{all_true}
use Rattle.lists.specs.Equal.{eq_list}
use Rattle.shake256.specs.Fips.{SHAKE256}
use Rattle.answers.specs.Answer.{Answer}
use Rattle.answers.specs.Number.{answer_number}
use Rattle.answers.specs.Order.{Conditions, order, holds, first_of}
use Rattle.parameters.specs.declared.Parameters.{Parameters}
use Rattle.exchange.specs.Sequences.{least}
use Rattle.exchange.specs.Values.{Key}
use Rattle.exchange.specs.Parties.{sums_of}
use Rattle.exchange.specs.Opening.{Exchange, announced}
use Rattle.runs.specs.Opening.{Transcript, exchange_at, verdict}
use Rattle.calls.specs.Held.{is_some}
use Rattle.calls.specs.Lengths.{opening_lengths}
use Rattle.calls.specs.Judging.{digest_differs, response_differs}
use Rattle.calls.specs.Prover.{Prover}
use Rattle.calls.specs.Prover.History as prover
use Rattle.calls.specs.Verifier.{Verifier}
use Rattle.calls.specs.Verifier.History.{Made, Call, opening_call, outcome, after, made, leaf_since, opened_since, of_exchange}
use Rattle.calls.specs.Extractor.{extraction, number_of}
use Rattle.calls.specs.Extractor.Expected.{or_then, early_conditions}

-- ---- the sums

pub record Agreement (hash : List ℕ → ℕ → List ℕ) : Type 0 where
  pub on-all-axes : (p : Parameters) (e : Exchange) (key : Key) (j j' : ℕ) → j < p.axes → j' < p.axes
      → sums_of p (announced hash p e key j) ≡ sums_of p (announced hash p e key j')

-- ---- document 01's check

module _ (hash : List ℕ → ℕ → List ℕ) where
  unfoldable pub sums_agree : Parameters → Exchange → Key → ℕ → Bool
  sums_agree p e key zero = true
  sums_agree p e key (suc n) = sums_agree p e key n && eq_list (sums_of p (announced hash p e key n)) (sums_of p (announced hash p e key 0))

  unfoldable pub sums_differ : Parameters → Exchange → Key → Bool
  sums_differ p e key = not (sums_agree p e key p.axes)

  module _ (p : Parameters) (runs : ℕ) (t : Transcript) (key : Key) where
    unfoldable pub refused_with6 : ℕ
    refused_with6 =
        least
        (λ e. digest_differs hash p (exchange_at p t e) || (sums_differ p (exchange_at p t e) key || response_differs hash p key (exchange_at p t e))) runs

    unfoldable pub conditions_with6 : Conditions
    conditions_with6 =
        (5, ltb refused_with6 runs && digest_differs hash p (exchange_at p t refused_with6))
        ∷ (6, ltb refused_with6 runs && sums_differ p (exchange_at p t refused_with6) key)
        ∷ (7, ltb refused_with6 runs && response_differs hash p key (exchange_at p t refused_with6))
        ∷ []

  unfoldable pub opening_with6 : List Made → List ℕ → Key → List ℕ → Conditions
  opening_with6 h m5 key work =
      (12, opened_since h)
      ∷ (11, not (is_some (leaf_since h)))
      ∷ of_exchange h m5 [] (λ p runs t. (2, not (all_true (opening_lengths p t.leaves m5 key work))) ∷ conditions_with6 p runs t key)

unfoldable pub straight_after : ℕ → ℕ → List ℕ → List ℕ
straight_after a n [] = []
straight_after a n (k ∷ ns) = k ∷ cond (eqb k a) (n ∷ ns) (straight_after a n ns)

unfoldable pub order_with6 : List ℕ
unfolding straight_after
order_with6 = straight_after 5 6 order

unfoldable pub answer_with6 : Conditions → ℕ
answer_with6 cs = first_of order_with6 (holds cs)

-- ---- what is shown of it

pub record SameAnswers (hash : List ℕ → ℕ → List ℕ) : Type 0 where
  pub verdicts : (p : Parameters) (runs : ℕ) (t : Transcript) (key : Key)
      → answer_number (verdict hash p runs t key) ≡ answer_with6 (conditions_with6 hash p runs t key)
  pub verifier : (cs : List Call) (m5 : List ℕ) (key : Key) (work : List ℕ)
      → (outcome hash (after hash cs) (opening_call m5 key work)).answer ≡ answer_with6 (opening_with6 hash (made hash cs) m5 key work)
  -- 'in the extractor 5, 6, 7 of the first opening come before those of the second'
  pub extractor : (p : Parameters) (runs : ℕ) (t t' : Transcript) (key : Key) (work out : List ℕ)
      → number_of (extraction hash p runs t t' key work out).answer
      ≡ or_then
      (answer_with6 (early_conditions hash p runs t t' key work out ++ conditions_with6 hash p runs t key))
      (answer_with6 (conditions_with6 hash p runs t' key))

pub record Unused (hash : List ℕ → ℕ → List ℕ) : Type 0 where
  pub answer : (a : Answer) → answer_number a ≡ 6 → ⊥
  pub prover : (s : Prover) (c : prover.Call) → (prover.outcome hash s c).answer ≡ 6 → ⊥
  pub verifier : (s : Verifier) (c : Call) → (outcome hash s c).answer ≡ 6 → ⊥
  pub extractor : (p : Parameters) (runs : ℕ) (t t' : Transcript) (key : Key) (work out : List ℕ)
      → number_of (extraction hash p runs t t' key work out).answer ≡ 6 → ⊥

pub record Request05 : Type 0 where
  pub sums-agree : Agreement SHAKE256
  pub no-verdict-changes : SameAnswers SHAKE256
  pub unused : Unused SHAKE256
