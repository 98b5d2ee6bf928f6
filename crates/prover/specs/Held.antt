-- The session in code and what a call returns, as the definitions of the calls have them.
--
-- HeldVector x          x as a session holds it: 255 bytes, of which the first m count
-- session f p runs x salt root message2   a session that holds these
-- held s                the session, field by field
-- given a s out work    what a method returned and left: document 01's number of the answer, the session, output and work area
use Rattle.std.specs.Prelude.{◌≡◌, List, ℕ, length}
use Rattle.answers.specs.Answer.{Answer}
use Rattle.answers.specs.Number.{answer_number}
use Rattle.parameters.specs.declared.Parameters.{Parameters}
use Rattle.prover_phase.specs.declared.Phase.{Phase}
use Rattle.calls.specs.Prover.{Prover as Session, Outcome}
use Rattle.prover.specs.declared.Prover.{Prover}

abbrev pub HeldVector : List ℕ → Type 0
HeldVector x = length x ≡ 255

abbrev pub session : Phase → Parameters → ℕ → List ℕ → List ℕ → List ℕ → List ℕ → Session
session f p runs x salt root message2 =
    record { phase = f; parameters = p; runs = runs; x = x; salt = salt; root = root; message2 = message2 }

abbrev pub held : Prover → Session
held s = session s.phase s.parameters s.runs s.x s.salt s.root s.message2

abbrev pub given : Answer → Prover → List ℕ → List ℕ → Outcome
given a s out work = record { answer = answer_number a; prover = held s; out = out; work = work }
