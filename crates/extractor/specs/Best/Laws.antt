-- What the runs so far give, as the definitions have it.
--
-- next-lowest       the lowest refused run's answer, with one run more
-- layer-some        the layer of an unequal pair is not 0
-- run_none, run-some   the first unequal pair of a run
-- verdict-next      the verdict with one run more, where the runs before it are accepted
-- Progress e b      b is what the runs below e give, whose first openings are accepted
-- progress-none, progress-more   no run, one run more
use Rattle.std.specs.Prelude.{◌≡◌, refl, Bool, true, false, ℕ, suc, ◌+◌, ◌<◌, eqb, ltb, Option, Some, None, Ok, Err}
use Rattle.std.specs.Option.{option_or}
use Rattle.std.specs.Result.{result_and}
use Rattle.std.proofs.Common.{sym, ◌∙◌, not-suc-le-zero, add-one, arith}
use Rattle.std.proofs.Math.Path.{ap, ap₂, subst}
use Rattle.std.proofs.Math.Bool.{cond}
use mathlib.Core.List.{List, [], ◌∷◌}
use Rattle.std.proofs.Math.Decide.{ℕ_discrete}
use Rattle.std.proofs.lemmas.Bool.{eqb-false, not-true, not-false}
use Rattle.shake256.specs.Fips.{SHAKE256}
use Rattle.answers.specs.Answer.{Answer}
use Rattle.parameters.specs.declared.Parameters.{Parameters}
use Rattle.exchange.specs.Values.{Key}
use Rattle.exchange.specs.Opening as opening
use Rattle.exchange.specs.Opening.{Exchange, exchange}
use Rattle.exchange.specs.Extractor as run
use Rattle.exchange.specs.Extractor.{Finding, unequal, states}
use Rattle.runs.specs.Messages.{leaf_at}
use Rattle.runs.specs.Opening.{Transcript, exchange_at, lowest, verdict}
use Rattle.runs.proofs.Opening.Laws.{lowest-next, lowest-stays}
use Rattle.runs.specs.Extractor.{differs}
use Rattle.runs.proofs.Extractor.Unequal.{FirstUnequal}
use Rattle.extractor.specs.declared.best.Best.{Best}
use Rattle.extractor.specs.declared.findings.Difference.{Difference}
use Rattle.extractor.specs.declared.run.Judgement.{Judgement}
use Rattle.extractor.specs.Chain.{row_chain, leaf_chain, extract-chain}
use Rattle.extractor.specs.Head.{none≢some, some-inj}
use Rattle.extractor.specs.Difference.{layer_of, number_of, named, difference_of}
use Rattle.extractor.specs.Run.{difference_at, RunFound}
use Rattle.extractor.specs.Best.{nothing, in_run, better_of}

pub next-lowest : (f : ℕ → Answer) (e : ℕ) (a x : Answer) → a ≡ lowest f e → x ≡ f e → result_and a x ≡ lowest f (suc e)
next-lowest f e (Ok _) x q h = h ∙ sym (lowest-next f e (sym q))
next-lowest f e (Err r) x q h = sym (lowest-stays f e (sym q))

-- ---- the first unequal pair of a run

abbrev layer_in : Finding → ℕ
layer_in (unequal l n) = l
layer_in (states a s) = 9

chain-layer : (seven : Bool) (j d : ℕ) (five : Bool) (i n a : ℕ) (s : List ℕ) → layer_in (row_chain seven j d (leaf_chain five i n (states a s))) ≡ 0 → ⊥
unfolding row_chain leaf_chain
chain-layer seven j d five i n a s = go seven (ltb j d) five (ltb i n)
  where
    go : (b b' b'' b''' : Bool) → layer_in (cond b (unequal 7 0) (cond b' (unequal 6 (j + 1)) (cond b'' (unequal 5 0) (cond b''' (unequal 4 i) (states a s))))) ≡ 0 → ⊥
    go true b' b'' b''' = eqb-false 7 0 refl
    go false true b'' b''' = eqb-false 6 0 refl
    go false false true b''' = eqb-false 5 0 refl
    go false false false true = eqb-false 4 0 refl
    go false false false false = eqb-false 9 0 refl

module _ (p : Parameters) (key : Key) (e e' : Exchange) where
  abbrev list : List (ℕ × ℕ)
  list = run.unequal_at SHAKE256 p key e e'

  extract-some : (a : ℕ × ℕ) (l : List (ℕ × ℕ)) → list ≡ a ∷ l → run.extract SHAKE256 p key e e' ≡ unequal a.0 a.1
  unfolding run.extract run.finding
  extract-some a l q = rw q

  extract-none : list ≡ [] → run.extract SHAKE256 p key e e' ≡ states (run.axis p e e') (run.output SHAKE256 p e e')
  unfolding run.extract run.finding
  extract-none q = rw q

  pub layer-some : (a : ℕ × ℕ) (l : List (ℕ × ℕ)) → list ≡ a ∷ l → a.0 ≡ 0 → ⊥
  layer-some a l q z =
      chain-layer _ _ _ _ _ _ _ _ (sym (ap layer_in (extract-chain SHAKE256 p key e e')) ∙ ap layer_in (extract-some a l q) ∙ z)

  found_none : None ≡ difference_of (run.extract SHAKE256 p key e e') → list ≡ []
  found_none q = go list refl
    where
      go : (l : List (ℕ × ℕ)) → list ≡ l → list ≡ []
      go [] h = h
      go (a ∷ l) h = absurd (none≢some a (q ∙ ap difference_of (extract-some a l h)))

  found_some : (x : ℕ × ℕ) → Some x ≡ difference_of (run.extract SHAKE256 p key e e') → (rest : List (ℕ × ℕ)) × (list ≡ x ∷ rest)
  found_some x q = go list refl
    where
      go : (l : List (ℕ × ℕ)) → list ≡ l → (rest : List (ℕ × ℕ)) × (list ≡ x ∷ rest)
      go [] h = absurd (none≢some x (sym (q ∙ ap difference_of (extract-none h))))
      go (a ∷ l) h =
          (l, h ∙ ap (λ (y : ℕ × ℕ). y ∷ l) (sym (some-inj x a (q ∙ ap difference_of (extract-some a l h)))))

module _ (p : Parameters) (key : Key) (t t' : Transcript) (e : ℕ) (d : Option (ℕ × ℕ)) (is : d ≡ difference_at p key (exchange_at p t e) (exchange_at p t' e)) where
  at-differing : differs t t' e ≡ true → d ≡ difference_of (run.extract SHAKE256 p key (exchange_at p t e) (exchange_at p t' e))
  unfolding difference_at exchange_at exchange differs
  at-differing h = is ∙ ap (λ (b : Bool). cond b None (difference_of (run.extract SHAKE256 p key (exchange_at p t e) (exchange_at p t' e)))) (not-true (eqb (leaf_at t.leaves e) (leaf_at t'.leaves e)) h)

  at-agreeing : differs t t' e ≡ false → d ≡ None
  unfolding difference_at exchange_at exchange differs
  at-agreeing h = is ∙ ap (λ (b : Bool). cond b None (difference_of (run.extract SHAKE256 p key (exchange_at p t e) (exchange_at p t' e)))) (not-false (eqb (leaf_at t.leaves e) (leaf_at t'.leaves e)) h)

  pub run_none : d ≡ None → differs t t' e ≡ true → run.unequal_at SHAKE256 p key (exchange_at p t e) (exchange_at p t' e) ≡ []
  run_none z h = found_none p key (exchange_at p t e) (exchange_at p t' e) (sym z ∙ at-differing h)

  module _ (x : ℕ × ℕ) (z : d ≡ Some x) where
    pub run-differs : differs t t' e ≡ true
    run-differs = go (differs t t' e) refl
      where
        go : (b : Bool) → differs t t' e ≡ b → differs t t' e ≡ true
        go true h = h
        go false h = absurd (none≢some x (sym (sym z ∙ at-agreeing h)))

    pub run-some : (rest : List (ℕ × ℕ)) × (run.unequal_at SHAKE256 p key (exchange_at p t e) (exchange_at p t' e) ≡ x ∷ rest)
    run-some = found_some p key (exchange_at p t e) (exchange_at p t' e) x (sym z ∙ at-differing run-differs)

-- ---- the runs so far

module _ (p : Parameters) (n : ℕ) (t t' : Transcript) (key : Key) where
  pub record Progress (e : ℕ) (b : Best) : Type 0 where
    pub first : verdict SHAKE256 p e t key ≡ Ok tt
    pub second : b.second ≡ verdict SHAKE256 p e t' key
    pub none : b.unequal ≡ None → (k : ℕ) → k < e → differs t t' k ≡ true
        → run.unequal_at SHAKE256 p key (exchange_at p t k) (exchange_at p t' k) ≡ []
    pub some : (k : ℕ) (d : Difference) → b.unequal ≡ Some (k, d) → FirstUnequal SHAKE256 p n key t t' (k, (layer_of d, number_of d))

  pub progress-none : Progress 0 nothing
  unfolding verdict lowest
  progress-none = record { first = refl; second = refl; none = λ z k l. absurd (not-suc-le-zero l); some = λ k d z. absurd (none≢some (k, d) z) }

  pub verdict-next : (e : ℕ) → verdict SHAKE256 p e t key ≡ Ok tt → verdict SHAKE256 p (e + 1) t key ≡ opening.verdict SHAKE256 p (exchange_at p t e) key
  unfolding verdict
  verdict-next e q = ap (lowest (λ k. opening.verdict SHAKE256 p (exchange_at p t k) key)) (add-one e) ∙ lowest-next _ e q

  module _ (e : ℕ) (b : Best) (j : Judgement) (o : List ℕ) (inside : e < n) (before : Progress e b)
      (found : RunFound p key (exchange_at p t e) (exchange_at p t' e) j o) where
    second_more : (better_of b e j).second ≡ verdict SHAKE256 p (e + 1) t' key
    unfolding better_of verdict
    second_more =
        next-lowest _ e b.second j.second before.second found.second
        ∙ ap (lowest (λ k. opening.verdict SHAKE256 p (exchange_at p t' k) key)) (sym (add-one e))

    -- the pair with one run more, from its parts
    joined : {u v : Option (ℕ × Difference)} {d : Option Difference} → b.unequal ≡ u → j.difference ≡ d → option_or b.unequal (in_run e j.difference) ≡ v
        → option_or u (in_run e d) ≡ v
    joined q q' z = sym (ap₂ (λ (u : Option (ℕ × Difference)) (d : Option Difference). option_or u (in_run e d)) q q') ∙ z

    none_more : (better_of b e j).unequal ≡ None → (k : ℕ) → k < e + 1 → differs t t' k ≡ true
        → run.unequal_at SHAKE256 p key (exchange_at p t k) (exchange_at p t' k) ≡ []
    unfolding better_of
    none_more z k l h = go b.unequal refl j.difference refl (ℕ_discrete k e)
      where
        go : (u : Option (ℕ × Difference)) → b.unequal ≡ u → (d : Option Difference) → j.difference ≡ d → Dec (k ≡ e)
            → run.unequal_at SHAKE256 p key (exchange_at p t k) (exchange_at p t' k) ≡ []
        go None q None q' (yes r) =
            subst (λ (x : ℕ). run.unequal_at SHAKE256 p key (exchange_at p t x) (exchange_at p t' x) ≡ []) (sym r)
            (run_none p key t t' e (named j.difference) found.difference (ap named q') (subst (λ (x : ℕ). differs t t' x ≡ true) r h))
        go None q None q' (no r) = before.none q k (omega arith) h
        go None q (Some d) q' r = absurd (none≢some (e, d) (sym (joined q q' z)))
        go (Some u) q d q' r = absurd (none≢some u (sym (joined q q' z)))

    some_more : (k : ℕ) (d : Difference) → (better_of b e j).unequal ≡ Some (k, d) → FirstUnequal SHAKE256 p n key t t' (k, (layer_of d, number_of d))
    unfolding better_of
    some_more k d z = go b.unequal refl j.difference refl
      where
        go : (u : Option (ℕ × Difference)) → b.unequal ≡ u → (x : Option Difference) → j.difference ≡ x
            → FirstUnequal SHAKE256 p n key t t' (k, (layer_of d, number_of d))
        go (Some u) q x q' = before.some k d (q ∙ joined q q' z)
        go None q None q' = absurd (none≢some (k, d) (joined q q' z))
        go None q (Some x) q' =
            let same = some-inj (e, x) (k, d) (joined q q' z) in
            let f : named j.difference ≡ Some (layer_of x, number_of x) = ap named q' in
            let s = run-some p key t t' e (named j.difference) found.difference _ f in
            subst (λ (y : ℕ × Difference). FirstUnequal SHAKE256 p n key t t' (y.0, (layer_of y.1, number_of y.1))) same
            (record { inside = inside; differ = run-differs p key t t' e (named j.difference) found.difference _ f; rest = s.0; is = s.1; before = before.none q })

    pub progress-more : Progress (e + 1) (better_of b e j)
    progress-more = record { first = verdict-next e before.first ∙ found.accepted; second = second_more; none = none_more; some = some_more }
