-- Demand 1 at SHAKE256.
--
-- demand1       it holds
use Rattle.std.specs.Prelude.{List, ℕ}
use Rattle.shake256.specs.Fips.{SHAKE256}
use Rattle.answers.specs.Order.Laws.{answer-carried, answer-first}
use Rattle.calls.proofs.Prover.Settled as prover_settled
use Rattle.calls.proofs.Prover.Reached as prover_reached
use Rattle.calls.proofs.Prover.Told as prover_told
use Rattle.calls.proofs.Prover.Runs as prover_runs
use Rattle.calls.proofs.Prover.AnySession as prover_any
use Rattle.calls.proofs.Verifier.Reached.Laws as verifier_reached
use Rattle.calls.proofs.Verifier.Told as verifier_told
use Rattle.calls.proofs.Verifier.Kept as verifier_kept
use Rattle.calls.proofs.Extractor.Told as extractor_told
use Rattle.claims.specs.Demand1.{Prover, Verifier, Extractor, Demand1}

module _ (hash : List ℕ → ℕ → List ℕ) where
  prover-conduct : Prover hash
  prover-conduct = record {
    told = prover_told.told-by-calls hash;
    refused = prover_settled.refused-same hash;
    one-response-and-one-opening = prover_any.at_most_one hash;
    points = λ cs m2 key work out. (prover_runs.points-carried hash cs m2 key work out, prover_runs.points-due-after-begin hash cs m2 key work out);
    leaf = λ cs is key work out. (prover_runs.leaf-carried hash cs is key work out, prover_runs.leaf-due-after-points hash cs is key work out);
    begin = λ cs b work out. (prover_runs.begin-carried hash cs b work out, prover_runs.begin-due-always hash cs b work out);
    repeated = prover_runs.repeated-exactly hash;
    begin-between = prover_runs.begin-between hash;
    begin-due = prover_any.begin-due hash;
    guard-idle = prover_reached.guard-idle hash;
    damaged-closed = prover_any.damaged-closed hash;
    damaged-repeats = prover_any.held-repeats hash;
  }

  verifier-conduct : Verifier hash
  verifier-conduct = record {
    told = verifier_told.told-by-calls hash;
    refused = verifier_kept.refused-same hash;
    closes = verifier_kept.judged-ended hash;
    begin-due = verifier_kept.begin-due hash;
    guard-idle = verifier_reached.guard-idle hash;
    damaged-closed = verifier_kept.damaged-shut hash;
  }

  extractor-conduct : Extractor hash
  extractor-conduct = record { told = extractor_told.told hash; number = extractor_told.number-told hash }

pub demand1 : Demand1
demand1 = record {
  by-the-order = record { carried-out = answer-carried; first = answer-first };
  prover = prover-conduct SHAKE256;
  verifier = verifier-conduct SHAKE256;
  extractor = extractor-conduct SHAKE256;
}
