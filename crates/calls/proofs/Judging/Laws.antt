-- The laws of an opening's conditions.
--
-- accepted-run, refused-run   a run's verdict, by whether its digests differ
-- verdict-told       an opening's checks give the number of its conditions by document 01's order
-- verdict-judged     an opening whose checks are made is judged: accepted, 5 or 7
use Rattle.std.specs.Prelude.{◌≡◌, Bool, ◌&&◌, ◌||◌, List, [], ◌∷◌, ℕ, ◌<◌, ltb, Ok, Err}
use Rattle.std.proofs.Math.Path.{refl}
use Rattle.std.proofs.Common.{sym, ap, ◌∙◌, true≢false, arith, lt-ltb, le-ltb}
use Rattle.std.proofs.Math.Bool.{true, false, not}
use Rattle.std.proofs.lemmas.Bool.{false≢true}
use Rattle.std.proofs.Math.Decide.{dec_lt}
use Rattle.lists.specs.Equal.{eq_list}
use Rattle.answers.specs.Answer.{Answer}
use Rattle.answers.specs.declared.Refusal.{Refusal}
use Rattle.answers.specs.declared.Refusal.TheVariants.{Commitment, Response}
use Rattle.answers.specs.Number.{answer_number}
use Rattle.answers.specs.Checks.{checks}
use Rattle.answers.specs.Order.{Conditions, holds, first_of, answer_of}
use Rattle.parameters.specs.declared.Parameters.{Parameters}
use Rattle.exchange.specs.Sequences.{least}
use Rattle.exchange.proofs.Sequences.Laws.{Least, least-is}
use Rattle.exchange.specs.Values.{Key}
use Rattle.exchange.specs.Opening as run
use Rattle.exchange.specs.Opening.{Exchange, commitment_string, response_string}
use Rattle.runs.specs.Opening.{Transcript, exchange_at, lowest, verdict}
use Rattle.runs.proofs.Opening.Laws.{lowest-all, lowest-first, lowest-keeps}
use Rattle.calls.specs.Judging.{digest_differs, response_differs, refused_run, opening_conditions, judged}

-- the two conditions, from whether there is a refused run
abbrev conditions_of : Bool → Bool → Bool → Conditions
conditions_of l d q = (5, l && d) ∷ (7, l && q) ∷ []

none_told : (d q : Bool) → answer_of (conditions_of false d q) ≡ 0
unfolding answer_of first_of holds
none_told d q = refl

-- ---- a run

module _ (hash : List ℕ → ℕ → List ℕ) (p : Parameters) (key : Key) (e : Exchange) where
  accepted-run : (digest_differs hash p e || response_differs hash p key e) ≡ false → run.verdict hash p e key ≡ Ok tt
  unfolding run.verdict digest_differs response_differs
  accepted-run = go (eq_list (hash (commitment_string hash p e) 32) e.h) (eq_list (hash (response_string hash p e key) 32) e.message3)
    where
      go : (a b : Bool) → (not a || not b) ≡ false → checks ((a, Commitment) ∷ (b, Response) ∷ []) ≡ Ok tt
      go true true h = refl
      go true false h = absurd (true≢false h)
      go false b h = absurd (true≢false h)

  record RefusedRun : Type 0 where
    pub refusal : Refusal
    pub refuses : run.verdict hash p e key ≡ Err refusal
    pub number : answer_number (Err refusal) ≡ answer_of (conditions_of true (digest_differs hash p e) (response_differs hash p key e))

  refused-run : (digest_differs hash p e || response_differs hash p key e) ≡ true → RefusedRun
  unfolding run.verdict digest_differs response_differs answer_of first_of holds
  refused-run =
      go (eq_list (hash (commitment_string hash p e) 32) e.h) (eq_list (hash (response_string hash p e key) 32) e.message3) refl refl
    where
      go : (a b : Bool) → eq_list (hash (commitment_string hash p e) 32) e.h ≡ a
          → eq_list (hash (response_string hash p e key) 32) e.message3 ≡ b → (not a || not b) ≡ true → RefusedRun
      go true true x y h = absurd (false≢true h)
      go true false x y h = record { refusal = Response; refuses = rw (x, y); number = rw (x, y) }
      go false b x y h = record { refusal = Commitment; refuses = rw x; number = rw x }

  run-judged : judged (answer_number (run.verdict hash p e key)) ≡ true
  unfolding run.verdict
  run-judged = go (eq_list (hash (commitment_string hash p e) 32) e.h) (eq_list (hash (response_string hash p e key) 32) e.message3)
    where
      go : (a b : Bool) → judged (answer_number (checks ((a, Commitment) ∷ (b, Response) ∷ []))) ≡ true
      go true true = refl
      go true false = refl
      go false b = refl

-- ---- all runs

module _ (hash : List ℕ → ℕ → List ℕ) (p : Parameters) (runs : ℕ) (t : Transcript) (key : Key) where
  abbrev differs : ℕ → Bool
  differs e = digest_differs hash p (exchange_at p t e) || response_differs hash p key (exchange_at p t e)

  abbrev verdict_at : ℕ → Answer
  verdict_at e = run.verdict hash p (exchange_at p t e) key

  -- the runs before the lowest refused one are accepted
  before-accepted : (r : ℕ) → Least differs runs r → lowest verdict_at r ≡ Ok tt
  before-accepted r least = lowest-all verdict_at r (λ e l. accepted-run hash p key (exchange_at p t e) (least.before e l))

  verdict-at : (r : ℕ) → Least differs runs r
      → answer_number (lowest verdict_at runs)
      ≡ answer_of (conditions_of (ltb r runs) (digest_differs hash p (exchange_at p t r)) (response_differs hash p key (exchange_at p t r)))
  verdict-at r least = go (dec_lt r runs)
    where
      go : Dec (r < runs) → answer_number (lowest verdict_at runs)
          ≡ answer_of (conditions_of (ltb r runs) (digest_differs hash p (exchange_at p t r)) (response_differs hash p key (exchange_at p t r)))
      go (yes l) =
          let z = refused-run hash p key (exchange_at p t r) (least.passes l) in
          rw (lt-ltb r runs l) (ap answer_number (lowest-first verdict_at runs r l (before-accepted r least) z.refuses) ∙ z.number)
      go (no l) =
          let most = least.most in
          let e : r ≡ runs = omega arith in
          rw (le-ltb r runs (omega arith))
          (ap answer_number (ap (lowest verdict_at) (sym e) ∙ before-accepted r least)
          ∙ sym (none_told (digest_differs hash p (exchange_at p t r)) (response_differs hash p key (exchange_at p t r))))

  pub verdict-told : answer_number (verdict hash p runs t key) ≡ answer_of (opening_conditions hash p runs t key)
  unfolding verdict opening_conditions refused_run
  verdict-told = verdict-at (least differs runs) (least-is differs runs)

  pub verdict-judged : judged (answer_number (verdict hash p runs t key)) ≡ true
  unfolding verdict
  verdict-judged = lowest-keeps verdict_at (λ (a : Answer). judged (answer_number a) ≡ true) refl (λ e. run-judged hash p key (exchange_at p t e)) runs
