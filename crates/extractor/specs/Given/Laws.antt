-- What the call gives, from what its steps answered.
--
-- refused-early     a check before 5 failed
-- answered-first    the first opening of some run was refused
-- answered-second   the second opening of some run was refused
-- answered-pair     neither, and a pair of strings is unequal
-- filled            nor that
use Rattle.std.specs.Prelude.{◌≡◌, List, ℕ, zero, suc, ◌+◌, ◌≤◌, ◌<◌, length, Some, None, Ok, Err}
use Rattle.std.proofs.Math.Path.{sym, ap}
use Rattle.std.proofs.Common.{ap₂, ◌∙◌, subst, arith}
use Rattle.std.proofs.Math.Decide.{ℕ_discrete}
use Rattle.lists.specs.Zeroed.{zeroed}
use Rattle.shake256.specs.Fips.{SHAKE256}
use Rattle.answers.specs.Answer.{Answer}
use Rattle.answers.specs.declared.Refusal.{Refusal}
use Rattle.parameters.specs.declared.Parameters.{Parameters}
use Rattle.layout.specs.Layout.{work_length}
use Rattle.exchange.proofs.FirstAxis.{first-trailing}
use Rattle.exchange.specs.Sequences.{least}
use Rattle.exchange.specs.Values.{Key}
use Rattle.exchange.specs.Opening.{exchange}
use Rattle.exchange.specs.Extractor as run
use Rattle.exchange.proofs.Extractor.Laws.{axis-is}
use Rattle.runs.specs.Messages.{leaf_at}
use Rattle.runs.specs.Opening.{Transcript, exchange_at, lowest, verdict}
use Rattle.runs.proofs.Opening.Laws.{lowest-stays}
use Rattle.runs.specs.Extractor.{unequal, states, differs, lowest_run, outputs, extract}
use Rattle.runs.proofs.Extractor.Laws.{lowest-run}
use Rattle.runs.proofs.Extractor.Unequal.{extract-unequal, extract-states}
use Rattle.calls.specs.Extractor.{early_checks, found, second, first, early, extraction}
use Rattle.extractor.specs.declared.best.Best.{Best}
use Rattle.extractor.specs.declared.findings.Difference.{Difference}
use Rattle.extractor.specs.declared.findings.Extraction.{Extraction}
use Rattle.extractor.specs.declared.findings.Extraction.TheVariants.{Unequal, Extracted}
use Rattle.extractor.specs.Best.Laws.{Progress}
use Rattle.extractor.specs.Comparison.{axis_of}
use Rattle.extractor.specs.Difference.{layer_of, number_of}
use Rattle.extractor.specs.Early.{Early}
use Rattle.extractor.specs.Given.{given}
use Rattle.extractor.specs.Lowest.{leaves_differ, lowest_in, extracted_at}

keeps : (f : ℕ → Answer) {r : Refusal} (m n : ℕ) → m ≤ n → lowest f m ≡ Err r → lowest f n ≡ Err r
keeps f {r} m zero h q = subst (λ (k : ℕ). lowest f k ≡ Err r) (omega arith) q
keeps f {r} m (suc n) h q = go (ℕ_discrete m (suc n)) (λ l. keeps f m n l q)
  where
    go : Dec (m ≡ suc n) → (m ≤ n → lowest f n ≡ Err r) → lowest f (suc n) ≡ Err r
    go (yes e) ih = subst (λ (k : ℕ). lowest f k ≡ Err r) e q
    go (no e) ih = lowest-stays f n (ih (omega arith))

module _ (p : Parameters) (runs : ℕ) (t t' : Transcript) (key : Key) (work out : List ℕ) where
  module _ (a : Answer) (ea : a ≡ early_checks SHAKE256 p runs t t' key work out) where
    pub refused-early : (r : Refusal) → a ≡ Err r → given (Err r) out work ≡ extraction SHAKE256 p runs t t' key work out
    unfolding extraction early
    refused-early r q = rw (← ea, q)

  module _ (passed : early_checks SHAKE256 p runs t t' key work out ≡ Ok tt) (w : List ℕ) (z : w ≡ zeroed (work_length p) work) where
    first-refused : (r : Refusal) → verdict SHAKE256 p runs t key ≡ Err r → given (Err r) out w ≡ extraction SHAKE256 p runs t t' key work out
    unfolding extraction early first
    first-refused r q = rw (passed, q, z)

    second-refused : (r : Refusal) → verdict SHAKE256 p runs t key ≡ Ok tt → verdict SHAKE256 p runs t' key ≡ Err r
        → given (Err r) out w ≡ extraction SHAKE256 p runs t t' key work out
    unfolding extraction early first second
    second-refused r q q' = rw (passed, q, q', z)

    named : (e l n : ℕ) → verdict SHAKE256 p runs t key ≡ Ok tt → verdict SHAKE256 p runs t' key ≡ Ok tt → extract SHAKE256 p runs key t t' out ≡ unequal e l n
        → given (Ok (Unequal e l n)) out w ≡ extraction SHAKE256 p runs t t' key work out
    unfolding extraction early first second found
    named e l n q q' f = rw (passed, q, q', f, z)

    put : (e a : ℕ) (s : List ℕ) → verdict SHAKE256 p runs t key ≡ Ok tt → verdict SHAKE256 p runs t' key ≡ Ok tt → extract SHAKE256 p runs key t t' out ≡ states e a s
        → given (Ok (Extracted e a)) s w ≡ extraction SHAKE256 p runs t t' key work out
    unfolding extraction early first second found
    put e a s q q' f = rw (passed, q, q', f, z)

    pub answered-first : (e : ℕ) (r : Refusal) → e ≤ runs → verdict SHAKE256 p e t key ≡ Err r → given (Err r) out w ≡ extraction SHAKE256 p runs t t' key work out
    answered-first e r l q = first-refused r (unfold verdict in keeps _ e runs l (unfold verdict in q))

    module _ (b : Best) (all : Progress p runs t t' key runs b) where
      pub answered-second : (r : Refusal) → b.second ≡ Err r → given (Err r) out w ≡ extraction SHAKE256 p runs t t' key work out
      answered-second r q = second-refused r all.first (sym all.second ∙ q)

      pub answered-pair : b.second ≡ Ok tt → (e : ℕ) (d : Difference) → b.unequal ≡ Some (e, d)
          → given (Ok (Unequal e (layer_of d) (number_of d))) out w ≡ extraction SHAKE256 p runs t t' key work out
      answered-pair q e d h =
          named e (layer_of d) (number_of d) all.first (sym all.second ∙ q) (extract-unequal SHAKE256 p runs key t t' _ (all.some e d h) out)

      module _ (known : Early SHAKE256 p runs t t' key work out) where
        lowest-same : lowest_in t.leaves t'.leaves ≡ lowest_run p runs t t'
        unfolding lowest_in lowest_run differs
        lowest-same = ap (least (leaves_differ t.leaves t'.leaves)) known.first.size4

        pub lowest-inside : lowest_in t.leaves t'.leaves < length t.leaves
        lowest-inside =
            let l = (lowest-run t t' p runs known.first.size4 known.second.size4 known.other).inside in
            omega (arith, l, lowest-same, known.first.size4)

        axis-at : (e : ℕ) → e < runs → (leaf_at t.leaves e ≡ leaf_at t'.leaves e → ⊥)
            → axis_of (leaf_at t.leaves e) (leaf_at t'.leaves e) ≡ run.axis p (exchange_at p t e) (exchange_at p t' e)
        unfolding exchange_at exchange
        axis-at e l other =
            sym (axis-is p (exchange_at p t e) (exchange_at p t' e)
            ∙ ap (λ (n : ℕ). n + 1)
            (first-trailing p (leaf_at t.leaves e) (leaf_at t'.leaves e) (known.below e l) (known.below' e l) other 8 known.within.axes-most))

        pub filled : b.second ≡ Ok tt → b.unequal ≡ None → (s : List ℕ) → s ≡ outputs SHAKE256 p runs t t' out
            → given (Ok (extracted_at t.leaves t'.leaves (lowest_in t.leaves t'.leaves))) s w ≡ extraction SHAKE256 p runs t t' key work out
        filled h none s q =
            let low = lowest-run t t' p runs known.first.size4 known.second.size4 known.other in
            let same = ap (λ (n : ℕ). Extracted n (axis_of (leaf_at t.leaves n) (leaf_at t'.leaves n))) lowest-same
            ∙ ap (Extracted (lowest_run p runs t t')) (axis-at (lowest_run p runs t t') low.inside low.apart) in
            ap₂ (λ (x : Extraction) (o : List ℕ). given (Ok x) o w) same q
            ∙ put _ _ _ all.first (sym all.second ∙ h) (extract-states SHAKE256 p runs key t t' (all.none none) out)
