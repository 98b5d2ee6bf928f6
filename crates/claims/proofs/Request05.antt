-- Document 02's request 05 at SHAKE256.
--
-- as-document-01         the order with 6 is document 01's, with 14 'straight after 2'
-- request05              it holds
use Rattle.std.specs.Prelude.{◌≡◌, Bool, true, false, ◌&&◌, cond, eqb, ltb, Ok, Err}
use Rattle.std.proofs.Math.Path.{refl, ap, ap₂}
use Rattle.std.proofs.Common.{sym, ◌∙◌}
use Rattle.std.proofs.Math.Bool.{not, and-false}
use mathlib.Core.List.{List, [], ◌∷◌, ◌++◌}
use Rattle.std.proofs.Math.Option.{Option, none, some}
use Prim.Native.Nat.{ℕ, zero, suc}
use Rattle.lists.specs.Equal.Laws.{eq_list-of}
use Rattle.shake256.specs.Fips.{SHAKE256}
use Rattle.answers.specs.Answer.{Answer}
use Rattle.answers.specs.Number.Laws.{six-unused}
use Rattle.answers.specs.Order.{Conditions, holds, first_of, answer_of}
use Rattle.answers.specs.Order.Laws.{six-unanswered}
use Rattle.parameters.specs.declared.Parameters.{Parameters}
use Rattle.exchange.specs.Sequences.{least}
use Rattle.exchange.specs.Values.{Key}
use Rattle.exchange.specs.Opening.{Exchange}
use Rattle.exchange.proofs.Opening.Laws.{sums-agree}
use Rattle.runs.specs.Opening.{Transcript, transcript, exchange_at, verdict}
use Rattle.calls.specs.Held.{is_some, told}
use Rattle.calls.specs.Judging.{digest_differs, response_differs, refused_run, opening_conditions}
use Rattle.calls.proofs.Judging.Laws.{verdict-told}
use Rattle.calls.proofs.Prover.Settled.{checks_of, number-of}
use Rattle.calls.specs.Verifier.{Verifier, settle, held_transcript, begin_checks, begin, points_checks, points, response_checks, response, leaf_checks, leaf, opening_checks, judge, opening}
use Rattle.calls.specs.Verifier.History.{Made, Call, begin_call, points_call, response_call, leaf_call, opening_call, outcome, made, last_begin, points_since, response_since, leaf_since, opened_since, of_exchange, conditions}
use Rattle.calls.proofs.Verifier.Told.{number-told}
use Rattle.calls.specs.Extractor.Expected.{or_then, early_conditions, expected_number}
use Rattle.calls.proofs.Extractor.Told as extractor
use Rattle.claims.specs.Request05.{sums_agree, sums_differ, refused_with6, conditions_with6, opening_with6, straight_after, order_with6, answer_with6, SameAnswers, Unused, Request05}

-- ---- document 01's check

-- 'Order: 10, 12, 11, 1, 2, 3, 4, 13, 8, 9, 5, 6, 7', and of 14 'checked straight after 2' (document 02, request 02)
as-document-01 : order_with6 ≡ straight_after 2 14 (10 ∷ 12 ∷ 11 ∷ 1 ∷ 2 ∷ 3 ∷ 4 ∷ 13 ∷ 8 ∷ 9 ∷ 5 ∷ 6 ∷ 7 ∷ [])
unfolding order_with6 straight_after
as-document-01 = refl

-- ---- it holds

least-ext : (f g : ℕ → Bool) (n : ℕ) → ((i : ℕ) → f i ≡ g i) → least f n ≡ least g n
least-ext f g n h = ap (λ (f : ℕ → Bool). least f n) (λ i e. h e i)

-- what the calls tell, with one rule and with another
told-both : {A B C : Type 0} (R : B → C → Type 0) (o : Option A) (d : B) (f : A → B) (d' : C) (f' : A → C) → R d d' → ((a : A) → R (f a) (f' a))
    → R (told o d f) (told o d' f')
told-both R none d f d' f' q r = q
told-both R (some a) d f d' f' q r = r a

exchange-both : {A B : Type 0} (R : A → B → Type 0) (h : List Made) (m5 : List ℕ) (d : A) (f : Parameters → ℕ → Transcript → A) (d' : B)
    (f' : Parameters → ℕ → Transcript → B) → R d d' → ((p : Parameters) (runs : ℕ) (t : Transcript) → R (f p runs t) (f' p runs t))
    → R (of_exchange h m5 d f) (of_exchange h m5 d' f')
unfolding of_exchange
exchange-both R h m5 d f d' f' q r =
    told-both R (last_begin h) d _ d' _ q (λ b. told-both R (points_since h) d _ d' _ q (λ m2. told-both R (response_since h) d _ d' _ q
    (λ m3. told-both R (leaf_since h) d _ d' _ q (λ is. r b.parameters b.runs (transcript b.message1 m2 m3 is m5)))))

module _ (hash : List ℕ → ℕ → List ℕ) where
  agree : (p : Parameters) (e : Exchange) (key : Key) (n : ℕ) → sums_agree hash p e key n ≡ true
  unfolding sums_agree
  agree p e key zero = refl
  agree p e key (suc n) = rw (agree p e key n) (eq_list-of _ _ (sums-agree hash p e key n 0))

  never : (p : Parameters) (e : Exchange) (key : Key) → sums_differ hash p e key ≡ false
  unfolding sums_differ
  never p e key = ap not (agree p e key p.axes)

  module _ (p : Parameters) (runs : ℕ) (t : Transcript) (key : Key) where
    same-run : refused_with6 hash p runs t key ≡ refused_run hash p runs t key
    unfolding refused_with6 refused_run
    same-run = least-ext _ _ runs (λ e. rw (never p (exchange_at p t e) key))

    -- the conditions without 6, and a 6 that does not hold
    with-6-is : conditions_with6 hash p runs t key
        ≡ (5, ltb (refused_run hash p runs t key) runs && digest_differs hash p (exchange_at p t (refused_run hash p runs t key)))
        ∷ (6, false)
        ∷ (7, ltb (refused_run hash p runs t key) runs && response_differs hash p key (exchange_at p t (refused_run hash p runs t key)))
        ∷ []
    unfolding conditions_with6
    with-6-is = rw (same-run, never p (exchange_at p t (refused_run hash p runs t key)) key, and-false (ltb (refused_run hash p runs t key) runs))

    same-verdict : answer_of (opening_conditions hash p runs t key) ≡ answer_with6 (conditions_with6 hash p runs t key)
    unfolding opening_conditions answer_with6 order_with6 answer_of first_of holds
    same-verdict = rw with-6-is refl

    same_first : (t' : Transcript) (work out : List ℕ) → answer_of (early_conditions hash p runs t t' key work out ++ opening_conditions hash p runs t key)
        ≡ answer_with6 (early_conditions hash p runs t t' key work out ++ conditions_with6 hash p runs t key)
    unfolding opening_conditions early_conditions answer_with6 order_with6 answer_of first_of holds
    same_first t' work out = rw with-6-is refl

  same-opening : (h : List Made) (m5 : List ℕ) (key : Key) (work : List ℕ)
      → answer_of (conditions hash h (opening_call m5 key work)) ≡ answer_with6 (opening_with6 hash h m5 key work)
  unfolding conditions opening_with6 opening_conditions answer_with6 order_with6 answer_of first_of holds
  same-opening h m5 key work =
      exchange-both
      (λ (cs cs' : Conditions). answer_of ((12, opened_since h) ∷ (11, not (is_some (leaf_since h))) ∷ cs)
      ≡ answer_with6 ((12, opened_since h) ∷ (11, not (is_some (leaf_since h))) ∷ cs'))
      h m5 [] _ [] _ refl (λ p runs t. rw (with-6-is p runs t key) refl)

  same-answers : SameAnswers hash
  unfolding expected_number
  same-answers = record {
    verdicts = λ p runs t key. verdict-told hash p runs t key ∙ same-verdict p runs t key;
    verifier = λ cs m5 key work. number-told hash cs (opening_call m5 key work) ∙ same-opening (made hash cs) m5 key work;
    extractor = λ p runs t t' key work out.
        extractor.number-told hash p runs t t' key work out ∙ ap₂ or_then (same_first p runs t key t' work out) (same-verdict p runs t' key);
  }

  not-then : (n n' : ℕ) → (n ≡ 6 → ⊥) → (n' ≡ 6 → ⊥) → or_then n n' ≡ 6 → ⊥
  not-then n n' f g = go (eqb n 0)
    where
      go : (b : Bool) → cond b n' n ≡ 6 → ⊥
      go true = g
      go false = f

  settle-not : (a : Answer) (s next : Verifier) → (settle a s next).answer ≡ 6 → ⊥
  settle-not (Ok _) s next = six-unused (Ok tt)
  settle-not (Err r) s next = six-unused (Err r)

  judge-not : (s : Verifier) (m5 : List ℕ) (key : Key) (work : List ℕ) (a : Answer) → (judge hash s m5 key work a).answer ≡ 6 → ⊥
  unfolding judge
  judge-not s m5 key work (Ok _) = six-unused (verdict hash s.parameters s.runs (held_transcript s m5) key)
  judge-not s m5 key work (Err r) = six-unused (Err r)

  verifier-not : (s : Verifier) (c : Call) → (outcome hash s c).answer ≡ 6 → ⊥
  unfolding outcome begin points response leaf opening
  verifier-not s (begin_call b) = settle-not (begin_checks b.parameters b.runs b.message1) s _
  verifier-not s (points_call m2) = settle-not (points_checks s m2) s _
  verifier-not s (response_call m3) = settle-not (response_checks s m3) s _
  verifier-not s (leaf_call is) = settle-not (leaf_checks s is) s _
  verifier-not s (opening_call m5 key work) = judge-not s m5 key work (opening_checks hash s m5 key work)

  unused : Unused hash
  unfolding expected_number
  unused = record {
    answer = six-unused;
    prover = λ s c e. six-unused (checks_of hash s c) (sym (number-of hash s c) ∙ e);
    verifier = verifier-not;
    extractor = λ p runs t t' key work out e.
        not-then _ _ (six-unanswered _) (six-unanswered _) (sym (extractor.number-told hash p runs t t' key work out) ∙ e);
  }

pub request05 : Request05
request05 = record {
  sums-agree = record { on-all-axes = λ p e key j j' h h'. sums-agree SHAKE256 p e key j j' };
  no-verdict-changes = same-answers SHAKE256;
  unused = unused SHAKE256;
}
