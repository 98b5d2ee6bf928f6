-- An opening's checks as conditions, for the verifier's opening and for the extractor.
--
-- digest_differs, response_differs   of a run: the recomputed h is not message 1's; the recomputed h' is not message 3's
-- refused_run            the lowest refused run; the run count where none is refused
-- opening_conditions     5 and 7 of that run: 'otherwise gives the number of its lowest refused run' (document 02, request 01)
-- judged n              the opening that got the number n was judged: accepted, 5 or 7
use Rattle.std.specs.Prelude.{Bool, ◌&&◌, ◌||◌, not, List, [], ◌∷◌, ℕ, eqb, ltb}
use Rattle.lists.specs.Equal.{eq_list}
use Rattle.answers.specs.Order.{Conditions}
use Rattle.parameters.specs.declared.Parameters.{Parameters}
use Rattle.exchange.specs.Sequences.{least}
use Rattle.exchange.specs.Values.{Key}
use Rattle.exchange.specs.Opening.{Exchange, commitment_string, response_string}
use Rattle.runs.specs.Opening.{Transcript, exchange_at}

module _ (hash : List ℕ → ℕ → List ℕ) (p : Parameters) where
  unfoldable pub digest_differs : Exchange → Bool
  digest_differs e = not (eq_list (hash (commitment_string hash p e) 32) e.h)

  unfoldable pub response_differs : Key → Exchange → Bool
  response_differs key e = not (eq_list (hash (response_string hash p e key) 32) e.message3)

  module _ (runs : ℕ) (t : Transcript) (key : Key) where
    unfoldable pub refused_run : ℕ
    refused_run = least (λ e. digest_differs (exchange_at p t e) || response_differs key (exchange_at p t e)) runs

    unfoldable pub opening_conditions : Conditions
    opening_conditions =
        (5, ltb refused_run runs && digest_differs (exchange_at p t refused_run))
        ∷ (7, ltb refused_run runs && response_differs key (exchange_at p t refused_run))
        ∷ []

abbrev pub judged : ℕ → Bool
judged n = eqb n 0 || (eqb n 5 || eqb n 7)
