-- Demand 3, first half. 'For every two openings, whoever made them, that are accepted under the same key, salt, commitment, points,
-- multipliers and response digest and hide different leaves, the extractor names two unequal strings hashed to one digest exactly when
-- some two strings that it compares are unequal, and otherwise gives every leaf's state, whose summed x, S, Q, P, a, b, c satisfy
-- Hx = y and ε(SQ − PF)(r) = c − ab at each position'.
-- Over several runs (document 02, request 01): 'two openings are extracted in every run where the hidden leaves differ, lowest run first; only these
-- are compared, all before any output, and an unequal pair leaves all of it untouched'; 'The extractor's output has a part for each run, untouched
-- where none is extracted; its answer adds the run, and the axis is that of the lowest'.
--
-- Filled o     every run whose hidden leaves differ is extracted, and the answer is the lowest of them and its axis
-- Right o      what is claimed of an outcome o of the extractor's call
-- Extracts     the claim: the outcome of the call is right
use Rattle.std.specs.Prelude.{◌≡◌, List, ℕ, ◌<◌, length}
use Rattle.parameters.specs.declared.Parameters.{Parameters}
use Rattle.exchange.specs.Values.{Key}
use Rattle.exchange.specs.Extractor.{axis}
use Rattle.runs.specs.Messages.{leaf_at}
use Rattle.runs.specs.Opening.{Transcript, exchange_at}
use Rattle.runs.specs.Extractor.{compared}
use Rattle.calls.specs.Extractor.{refused, pair, filled, Outcome, extraction}
use Rattle.claims.specs.Words.{Apart, run_part, At, Same, Clash, States}

module _ (hash : List ℕ → ℕ → List ℕ) (p : Parameters) (runs : ℕ) (key : Key) (t t' : Transcript) where
  pub record Filled (out : List ℕ) (o : Outcome) : Type 0 where
    -- the lowest run whose hidden leaves differ, and its axis
    pub run : ℕ
    pub inside : run < runs
    pub apart : Apart t t' run
    pub lowest : (e : ℕ) → e < run → leaf_at t.leaves e ≡ leaf_at t'.leaves e
    pub answer : o.answer ≡ filled run (axis p (exchange_at p t run) (exchange_at p t' run))
    -- every leaf's state, in every run whose hidden leaves differ; the other parts as they were
    pub extracted : (e : ℕ) → e < runs → Apart t t' e → States hash p key (exchange_at p t e) (exchange_at p t' e) (run_part p o.out e)
    pub untouched : (e : ℕ) → e < runs → leaf_at t.leaves e ≡ leaf_at t'.leaves e → run_part p o.out e ≡ run_part p out e
    pub no_more : length o.out ≡ length out

  pub record Right (out : List ℕ) (o : Outcome) : Type 0 where
    -- no number is given
    pub never-refused : (n : ℕ) → o.answer ≡ refused n → ⊥
    -- what it names is such a pair, the first, and the output is untouched
    pub named : (run layer number : ℕ) → o.answer ≡ pair run layer number → Clash hash p runs key t t' run layer number × (o.out ≡ out)
    -- it names one whenever some two strings that it compares are unequal
    pub names : (run layer number : ℕ) → At run layer number (compared p runs t t')
        → (Same hash p runs key t t' run layer number → ⊥)
        → (run' : ℕ) × (layer' : ℕ) × (number' : ℕ) × (o.answer ≡ pair run' layer' number')
    -- and otherwise gives every leaf's state, run by run, and the axis
    pub otherwise : ((run layer number : ℕ) → At run layer number (compared p runs t t') → Same hash p runs key t t' run layer number)
        → Filled out o

  -- work area and output as lent
  abbrev pub Extracts : List ℕ → List ℕ → Type 0
  Extracts work out = Right out (extraction hash p runs t t' key work out)
