-- Demand 2 at SHAKE256.
--
-- demand2           it holds
use Rattle.std.specs.Prelude.{List, ℕ}
use Rattle.std.proofs.Common.{ap, sym, ◌∙◌}
use Rattle.shake256.specs.Fips.{SHAKE256}
use Rattle.shake256.proofs.Laws.{length-SHAKE256}
use Rattle.calls.specs.Prover.History as prover
use Rattle.calls.proofs.Prover.Told.{told-by-calls, number-told}
use Rattle.calls.proofs.Verifier.Runs as runs
use Rattle.claims.proofs.Acceptance.{accepts-exactly}
use Rattle.claims.proofs.Completeness.Calls.{completeness}
use Rattle.claims.specs.Demand2.{MessagesDefined, Demand2}

messages-defined : (hash : List ℕ → ℕ → List ℕ) → MessagesDefined hash
unfolding prover.expected
messages-defined hash cs c e = ap (λ (o : prover.Seen). o.out) (told-by-calls hash cs c) ∙ rw (sym (number-told hash cs c) ∙ e)

pub demand2 : Demand2
demand2 = record {
  messages-as-defined = messages-defined SHAKE256;
  accepts-exactly-after-calls = runs.accepted-exactly SHAKE256;
  accepts-exactly-when-checks-hold = accepts-exactly SHAKE256;
  valid-key-leads-to-acceptance = completeness SHAKE256 length-SHAKE256;
}
