-- Demand 2 at SHAKE256: 'The prover's messages equal, byte for byte, those that document 01 defines from the hypercube paper over FIPS 202,
-- and the verifier accepts an opening exactly when document 01's checks hold; with a valid key, its matrix and y unchanged throughout, every
-- root and salt that an exchange may start with, all points and multipliers and every leaf of the cube lead to acceptance.' Over exchanges of several
-- runs (document 02, request 01); 'The always-accepted clause .. [is] then about exchanges with distinct points' (request 02).
--
-- MessagesDefined   a call of the prover that is carried out, after any calls from a fresh session, writes the message that document 01 defines:
--                   message 1 of its own arguments, message 3 and 5 of the last begin's x, salt and root, and message 5 of the points call since
-- AcceptedExactly   after any calls from a fresh session the verifier accepts an opening exactly when since the last begin carried out points,
--                   response and leaf were, in this order and nothing else, and document 01's three checks hold of every run of their messages
-- Demand2           these, the checks on any session, and the clause on valid keys, whose points are distinct
use Rattle.std.specs.Prelude.{◌≡◌, List, ◌↔◌, ℕ}
use Rattle.shake256.specs.Fips.{SHAKE256}
use Rattle.exchange.specs.Values.{Key}
use Rattle.calls.specs.Prover.History as prover
use Rattle.calls.specs.Verifier.History as verifier
use Rattle.calls.specs.Verifier.Runs as runs
use Rattle.claims.specs.Acceptance.{AcceptsExactly}
use Rattle.claims.specs.Completeness.{Complete}

abbrev pub MessagesDefined : (List ℕ → ℕ → List ℕ) → Type 0
MessagesDefined hash = (cs : List prover.Call) (c : prover.Call) → (prover.outcome hash (prover.after hash cs) c).answer ≡ 0
    → (prover.outcome hash (prover.after hash cs) c).out ≡ prover.message hash (prover.made hash cs) c

abbrev pub AcceptedExactly : (List ℕ → ℕ → List ℕ) → Type 0
AcceptedExactly hash = (cs : List verifier.Call) (m5 : List ℕ) (key : Key) (work : List ℕ)
    → ((verifier.outcome hash (verifier.after hash cs) (verifier.opening_call m5 key work)).answer ≡ 0) ↔ runs.AcceptedAfter hash cs m5 key work

pub record Demand2 : Type 0 where
  pub messages-as-defined : MessagesDefined SHAKE256
  pub accepts-exactly-after-calls : AcceptedExactly SHAKE256
  pub accepts-exactly-when-checks-hold : AcceptsExactly SHAKE256
  pub valid-key-leads-to-acceptance : Complete SHAKE256
