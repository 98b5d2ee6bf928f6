-- Demand 2: 'the verifier accepts an opening exactly when document 01's checks hold'. Said of the verifier's call, on any session, with
-- any message, matrix, y and work area.
--
-- AcceptsExactly hash   the call answers 0 exactly when the checks that stand before 5 in the order pass and the three checks of an
--                       opening hold of every run of the exchange that the session holds: 'the recomputed h is message 1's, the sums of α, β
--                       and v agree on all axes, and the recomputed h' is message 3's', and 'An exchange is accepted when all runs are'
use Rattle.std.specs.Prelude.{◌≡◌, List, ℕ, Ok}
use Rattle.exchange.specs.Values.{Key}
use Rattle.runs.specs.Opening.{Accepted}
use Rattle.calls.specs.Verifier.{Verifier, held_transcript, opening_checks, opening}

pub record AcceptsExactly (hash : List ℕ → ℕ → List ℕ) : Type 0 where
  pub when : (s : Verifier) (m5 : List ℕ) (key : Key) (work : List ℕ) → opening_checks hash s m5 key work ≡ Ok tt
      → Accepted hash s.parameters s.runs (held_transcript s m5) key → (opening hash s m5 key work).answer ≡ 0
  pub only-when : (s : Verifier) (m5 : List ℕ) (key : Key) (work : List ℕ) → (opening hash s m5 key work).answer ≡ 0
      → (opening_checks hash s m5 key work ≡ Ok tt) × Accepted hash s.parameters s.runs (held_transcript s m5) key
