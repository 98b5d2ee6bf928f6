-- The laws of what the extractor finds, run after run.
--
-- unequal_in e                    the places of run e at which the two strings differ
-- unequal-is                     those of all runs, run after run
-- none_then, none-when           there are none exactly where no run whose hidden leaves differ has one
-- FirstUnequal, first_then, first-when   the first is the first of the lowest such run that has one
-- extract-unequal, extract-states   what is found
use Rattle.std.proofs.Math.Path.{◌≡◌, refl, ap}
use Rattle.std.proofs.Common.{sym, ◌∙◌, subst, arith, ext_get_or}
use Rattle.std.specs.Prelude.{Bool, ℕ, ◌<◌, length}
use Rattle.std.proofs.Math.Bool.{true, false, not, cond}
use mathlib.Core.List.Memᴰ
use mathlib.Core.List.{List, [], ◌∷◌, map, Memᴰ}
use Rattle.std.proofs.Math.Decide.{dec_lt}
use borrow.Author.Tests.{eq-eqb, ne_eqb, eqb-true, eqb-false, not-true, not-false}
use Rattle.lists.specs.Equal.{eq_list}
use Rattle.parameters.specs.declared.Parameters.{Parameters}
use Rattle.exchange.specs.Sequences.{those, least}
use Rattle.exchange.proofs.Sequences.Laws.{Least, least-is}
use Rattle.exchange.specs.Values.{Key}
use Rattle.exchange.specs.Extractor as run
use Rattle.runs.specs.Messages.{leaf_at}
use Rattle.runs.specs.Opening.{Transcript, exchange_at}
use Rattle.runs.specs.Extractor.{unequal, states, gathered, differs, compared, lowest_run, outputs, string_at, unequal_at, finding, extract}
use Rattle.runs.specs.Extractor.Gathered.{mem-gathered, gathered-mem, gathered_none, none-gathered, FirstOf, gathered-first, first-gathered, gathered-ext, those-gathered, those-map, mem-map, map-mem}
use Rattle.runs.proofs.Extractor.Laws.{placed, compared_in}

-- ---- what is unequal

module _ (hash : List ℕ → ℕ → List ℕ) (p : Parameters) (n : ℕ) (key : Key) (t t' : Transcript) where
  -- within a run
  abbrev pub run_unequal : ℕ → List (ℕ × ℕ)
  run_unequal e = run.unequal_at hash p key (exchange_at p t e) (exchange_at p t' e)

  unfoldable pub unequal_in : ℕ → List (ℕ × (ℕ × ℕ))
  unequal_in e = cond (differs t t' e) (map (placed e) (run_unequal e)) []

  abbrev apart : ℕ × (ℕ × ℕ) → Bool
  apart a = not (eq_list (string_at hash p n key t a) (string_at hash p n key t' a))

  pub unequal-is : unequal_at hash p n key t t' ≡ gathered unequal_in n
  unfolding unequal_at compared
  unequal-is = those-gathered apart (compared_in p n t t') n ∙ gathered-ext _ unequal_in n (λ e l. go e (differs t t' e) refl)
    where
      go : (e : ℕ) (d : Bool) → differs t t' e ≡ d → those apart (compared_in p n t t' e) ≡ unequal_in e
      go e true d =
          unfold unequal_in run.unequal_at in
          rw d (those-map apart (placed e) (run.compared p (exchange_at p t e) (exchange_at p t' e)) ∙ (unfold string_at in refl))
      go e false d = unfold unequal_in those in rw d

  in_is : (e : ℕ) → unequal_in e ≡ cond (differs t t' e) (map (placed e) (run_unequal e)) []
  unfolding unequal_in
  in_is e = refl

  in-none : (e : ℕ) → (differs t t' e ≡ true → run_unequal e ≡ []) → unequal_in e ≡ []
  unfolding unequal_in
  in-none e h = go (differs t t' e) refl
    where
      go : (d : Bool) → differs t t' e ≡ d → cond d (map (placed e) (run_unequal e)) [] ≡ []
      go true q = ap (map (placed e)) (h q)
      go false q = refl

  none_in : (e : ℕ) → unequal_in e ≡ [] → differs t t' e ≡ true → run_unequal e ≡ []
  unfolding unequal_in
  none_in e h d = go (run_unequal e) refl (rw d at h)
    where
      go : (xs : List (ℕ × ℕ)) → run_unequal e ≡ xs → map (placed e) xs ≡ [] → run_unequal e ≡ []
      go [] q k = q
      go (x ∷ xs) q k = absurd (let z : ◌≡◌ {A = ℕ} 0 1 = cc in omega arith)

  pub none-when : ((e : ℕ) → e < n → differs t t' e ≡ true → run_unequal e ≡ []) → unequal_at hash p n key t t' ≡ []
  none-when h = unequal-is ∙ gathered_none unequal_in n (λ e l. in-none e (h e l))

  pub none_then : unequal_at hash p n key t t' ≡ [] → (e : ℕ) → e < n → differs t t' e ≡ true → run_unequal e ≡ []
  none_then q e l = none_in e (none-gathered unequal_in n (sym unequal-is ∙ q) e l)

  -- the place a is the first of run a .0, and no run before it has one
  pub record FirstUnequal (a : ℕ × (ℕ × ℕ)) : Type 0 where
    pub inside : a.0 < n
    pub differ : differs t t' a.0 ≡ true
    pub rest : List (ℕ × ℕ)
    pub is : run_unequal a.0 ≡ a.1 ∷ rest
    pub before : (e : ℕ) → e < a.0 → differs t t' e ≡ true → run_unequal e ≡ []

  pub first_then : (a : ℕ × (ℕ × ℕ)) (rest : List (ℕ × (ℕ × ℕ))) → unequal_at hash p n key t t' ≡ a ∷ rest → FirstUnequal a
  first_then a rest q =
      let f = gathered-first unequal_in n a rest (sym unequal-is ∙ q) in
      go f (differs t t' f.at) refl (run_unequal f.at) refl (sym (in_is f.at) ∙ f.is)
    where
      go : (f : FirstOf unequal_in n a) (d : Bool) → differs t t' f.at ≡ d → (xs : List (ℕ × ℕ)) → run_unequal f.at ≡ xs
          → cond d (map (placed f.at) xs) [] ≡ a ∷ f.rest → FirstUnequal a
      go f false d xs k q = absurd (let z : ◌≡◌ {A = ℕ} 0 1 = cc in omega arith)
      go f true d [] k q = absurd (let z : ◌≡◌ {A = ℕ} 0 1 = cc in omega arith)
      go f true d (x ∷ xs) k q =
          let s : placed f.at x ≡ a = cc in
          subst FirstUnequal s
          (record { inside = f.inside; differ = d; rest = xs; is = k; before = λ e l. none_in e (f.before e l) })

  pub first-when : (a : ℕ × (ℕ × ℕ)) → FirstUnequal a → (rest : List (ℕ × (ℕ × ℕ))) × (unequal_at hash p n key t t' ≡ a ∷ rest)
  first-when a f =
      let g = first-gathered unequal_in n a (record {
        at = a.0;
        inside = f.inside;
        rest = map (placed a.0) f.rest;
        is = unfold unequal_in in rw (f.differ, f.is);
        before = λ e l. in-none e (f.before e l);
      }) in
      (g.0, unequal-is ∙ g.1)

  -- ---- what is found

  pub extract-unequal : (a : ℕ × (ℕ × ℕ)) → FirstUnequal a → (out : List ℕ) → extract hash p n key t t' out ≡ unequal a.0 a.1.0 a.1.1
  unfolding extract finding
  extract-unequal a f out = rw (first-when a f).1

  pub extract-states : ((e : ℕ) → e < n → differs t t' e ≡ true → run_unequal e ≡ []) → (out : List ℕ)
      → extract hash p n key t t' out
      ≡ states (lowest_run p n t t') (run.axis p (exchange_at p t (lowest_run p n t t')) (exchange_at p t' (lowest_run p n t t'))) (outputs hash p n t t' out)
  unfolding extract finding
  extract-states h out = rw (none-when h)
