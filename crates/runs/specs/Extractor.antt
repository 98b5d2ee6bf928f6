-- What the extractor makes of two accepted openings of one exchange of n runs (document 02, request 01): 'two openings are extracted in every run
-- where the hidden leaves differ, lowest run first; only these are compared, all before any output, and an unequal pair leaves all of it
-- untouched'.
--
-- differs t t' e       the hidden leaves of run e differ
-- gathered f n         f 0 ‖ f 1 ‖ .. ‖ f (n−1)
-- compared t t'        run, layer and number of the strings compared, in this order: those of every run whose hidden leaves differ
-- unequal_at t t'       those of them at which the two strings differ
-- lowest_run t t'       the lowest run whose hidden leaves differ
-- outputs t t' out     'has a part for each run, untouched where none is extracted'
-- Finding              the first unequal pair (run, layer and number), or the lowest run with its axis and the output
-- extract              'its answer adds the run, and the axis is that of the lowest'
use Rattle.std.specs.Prelude.{Bool, not, cond, List, [], ◌∷◌, ◌++◌, map, ℕ, zero, suc, ◌*◌, eqb}
use Rattle.lists.specs.Part.{part}
use Rattle.lists.specs.Equal.{eq_list}
use Rattle.parameters.specs.declared.Parameters.{Parameters}
use Rattle.layout.specs.Layout.{output_length}
use Rattle.exchange.specs.Sequences.{joined, those, least}
use Rattle.exchange.specs.Values.{Key}
use Rattle.exchange.specs.Extractor as run
use Rattle.runs.specs.Messages.{leaf_at}
use Rattle.runs.specs.Opening.{Transcript, exchange_at}
pub mod Gathered

pub data Finding : Type 0 where
  unequal : ℕ → ℕ → ℕ → Finding
  states : ℕ → ℕ → List ℕ → Finding

unfoldable pub gathered : {A : Type 0} → (ℕ → List A) → ℕ → List A
gathered f zero = []
gathered f (suc n) = gathered f n ++ f n

unfoldable pub differs : Transcript → Transcript → ℕ → Bool
differs t t' e = not (eqb (leaf_at t.leaves e) (leaf_at t'.leaves e))

module _ (p : Parameters) (n : ℕ) (t t' : Transcript) where
  unfoldable pub compared : List (ℕ × (ℕ × ℕ))
  compared = gathered (λ e. cond (differs t t' e) (map (λ a. (e, a)) (run.compared p (exchange_at p t e) (exchange_at p t' e))) []) n

  unfoldable pub lowest_run : ℕ
  lowest_run = least (differs t t') n

module _ (hash : List ℕ → ℕ → List ℕ) (p : Parameters) (n : ℕ) where
  unfoldable pub outputs : Transcript → Transcript → List ℕ → List ℕ
  outputs t t' out =
      joined
      (λ e. cond (differs t t' e) (run.output hash p (exchange_at p t e) (exchange_at p t' e)) (part out (e * output_length p) (output_length p))) n

  module _ (key : Key) where
    -- the string of an exchange at a run, layer and number
    unfoldable pub string_at : Transcript → ℕ × (ℕ × ℕ) → List ℕ
    string_at t a = run.string_at hash p key (exchange_at p t a.0) a.1.0 a.1.1

    unfoldable pub unequal_at : Transcript → Transcript → List (ℕ × (ℕ × ℕ))
    unequal_at t t' = those (λ a. not (eq_list (string_at t a) (string_at t' a))) (compared p n t t')

    unfoldable pub finding : Transcript → Transcript → List ℕ → List (ℕ × (ℕ × ℕ)) → Finding
    finding t t' out [] =
        states (lowest_run p n t t') (run.axis p (exchange_at p t (lowest_run p n t t')) (exchange_at p t' (lowest_run p n t t'))) (outputs t t' out)
    finding t t' out (a ∷ rest) = unequal a.0 a.1.0 a.1.1

    unfoldable pub extract : Transcript → Transcript → List ℕ → Finding
    extract t t' out = finding t t' out (unequal_at t t')
