-- The laws of the verdict over several runs.
--
-- lowest-stays, lowest-next   one more run: it changes nothing where one before it is refused, and answers where none is
-- lowest-all, lowest-each     no run is refused exactly when each is `Ok`
-- lowest-first                the first refused run answers
-- lowest-keeps                what holds of `Ok` and of each run's answer holds of the answer
-- lowest-same                 answers that agree run after run
-- accepted-then, accepted-when   the verdict is `Ok` exactly when all runs are accepted
-- refused-first               the verdict is that of a refused run before which all are accepted
-- verdict-same                exchanges whose runs are the same have the same verdict
use Rattle.std.specs.Prelude.{◌≡◌, List, Ok, Err}
use Rattle.std.proofs.Math.Path.{refl, sym, subst}
use Rattle.std.proofs.Common.{ap, ◌∙◌, not-suc-le-zero, arith}
use Prim.Native.Nat.{ℕ, zero, suc, ◌<◌}
use Rattle.std.proofs.Math.Decide.{ℕ_discrete}
use Rattle.answers.specs.Answer.{Answer}
use Rattle.answers.specs.declared.Refusal.{Refusal}
use Rattle.answers.specs.Checks.Laws.{Ok≢Err}
use Rattle.parameters.specs.declared.Parameters.{Parameters}
use Rattle.exchange.specs.Values.{Key}
use Rattle.exchange.specs.Opening as run
use Rattle.exchange.proofs.Opening.Laws as opening
use Rattle.runs.specs.Opening.{Transcript, exchange_at, lowest, verdict, Accepted}

-- ---- the lowest refusal

module _ (f : ℕ → Answer) where
  pub lowest-stays : (n : ℕ) {r : Refusal} → lowest f n ≡ Err r → lowest f (suc n) ≡ Err r
  unfolding lowest
  lowest-stays n e = rw e

  pub lowest-next : (n : ℕ) → lowest f n ≡ Ok tt → lowest f (suc n) ≡ f n
  unfolding lowest
  lowest-next n e = rw e

  -- where no run below the next one is refused, neither is one below this one
  lowest-before : (n : ℕ) → lowest f (suc n) ≡ Ok tt → lowest f n ≡ Ok tt
  lowest-before n e = go (lowest f n) refl
    where
      go : (a : Answer) → lowest f n ≡ a → lowest f n ≡ Ok tt
      go (Ok _) q = q
      go (Err r) q = absurd (Ok≢Err (sym e ∙ lowest-stays n q))

  pub lowest-all : (n : ℕ) → ((e : ℕ) → e < n → f e ≡ Ok tt) → lowest f n ≡ Ok tt
  unfolding lowest
  lowest-all zero h = refl
  lowest-all (suc n) h = lowest-next n (lowest-all n (λ e l. h e (omega arith))) ∙ h n (omega arith)

  pub lowest-each : (n : ℕ) → lowest f n ≡ Ok tt → (e : ℕ) → e < n → f e ≡ Ok tt
  lowest-each zero h e l = absurd (not-suc-le-zero l)
  lowest-each (suc n) h e l = go (ℕ_discrete e n) (lowest-each n (lowest-before n h) e)
    where
      go : Dec (e ≡ n) → (e < n → f e ≡ Ok tt) → f e ≡ Ok tt
      go (yes q) ih = ap f q ∙ sym (lowest-next n (lowest-before n h)) ∙ h
      go (no q) ih = ih (omega arith)

  pub lowest-first : (n e : ℕ) {r : Refusal} → e < n → lowest f e ≡ Ok tt → f e ≡ Err r → lowest f n ≡ Err r
  lowest-first zero e l h k = absurd (not-suc-le-zero l)
  lowest-first (suc n) e {r} l h k = go (ℕ_discrete e n) (λ m. lowest-first n e m h k)
    where
      go : Dec (e ≡ n) → (e < n → lowest f n ≡ Err r) → lowest f (suc n) ≡ Err r
      go (yes q) ih = lowest-next n (subst (λ (i : ℕ). lowest f i ≡ Ok tt) q h) ∙ subst (λ (i : ℕ). f i ≡ Err r) q k
      go (no q) ih = lowest-stays n (ih (omega arith))

  pub lowest-keeps : (P : Answer → Type 0) → P (Ok tt) → ((e : ℕ) → P (f e)) → (n : ℕ) → P (lowest f n)
  unfolding lowest
  lowest-keeps P d h zero = d
  lowest-keeps P d h (suc n) = go (lowest f n) refl (lowest-keeps P d h n)
    where
      go : (a : Answer) → lowest f n ≡ a → P (lowest f n) → P (lowest f (suc n))
      go (Ok _) q k = subst P (sym (lowest-next n q)) (h n)
      go (Err r) q k = subst P (q ∙ sym (lowest-stays n q)) k

pub lowest-same : (f g : ℕ → Answer) (n : ℕ) → ((e : ℕ) → e < n → f e ≡ g e) → lowest f n ≡ lowest g n
unfolding lowest
lowest-same f g zero h = refl
lowest-same f g (suc n) h = go (lowest g n) refl (lowest-same f g n (λ e l. h e (omega arith)))
  where
    go : (a : Answer) → lowest g n ≡ a → lowest f n ≡ lowest g n → lowest f (suc n) ≡ lowest g (suc n)
    go (Ok _) q k = lowest-next f n (k ∙ q) ∙ h n (omega arith) ∙ sym (lowest-next g n q)
    go (Err r) q k = lowest-stays f n (k ∙ q) ∙ sym (lowest-stays g n q)

-- ---- the verdict

module _ (hash : List ℕ → ℕ → List ℕ) (p : Parameters) (n : ℕ) (t : Transcript) (key : Key) where
  pub accepted-then : verdict hash p n t key ≡ Ok tt → Accepted hash p n t key
  unfolding verdict
  accepted-then q e l = opening.accepted-then hash p (exchange_at p t e) key (lowest-each _ n q e l)

  pub accepted-when : Accepted hash p n t key → verdict hash p n t key ≡ Ok tt
  unfolding verdict
  accepted-when a = lowest-all _ n (λ e l. opening.accepted-when hash p (exchange_at p t e) key (a e l))

  pub refused-first : (e : ℕ) {r : Refusal} → e < n → Accepted hash p e t key → run.verdict hash p (exchange_at p t e) key ≡ Err r
      → verdict hash p n t key ≡ Err r
  unfolding verdict
  refused-first e l a k = lowest-first _ n e l (lowest-all _ e (λ i m. opening.accepted-when hash p (exchange_at p t i) key (a i m))) k

pub verdict-same : (hash : List ℕ → ℕ → List ℕ) (p : Parameters) (n : ℕ) (t t' : Transcript) (key : Key)
    → ((e : ℕ) → e < n → exchange_at p t e ≡ exchange_at p t' e) → verdict hash p n t key ≡ verdict hash p n t' key
unfolding verdict
verdict-same hash p n t t' key h = lowest-same _ _ n (λ e l. ap (λ (x : run.Exchange). run.verdict hash p x key) (h e l))
