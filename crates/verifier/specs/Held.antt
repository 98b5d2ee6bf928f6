-- What the code holds and gives, in the words of the definitions of the calls (crate `calls`).
--
-- message1_in m, message2_in m, message3_in m   messages 1, 2 and 3 in the list that holds them one behind the other, each in its place
-- session f p runs m leaves   a session that holds these
-- held s            what a session in code holds
-- given a s         what a method returned and left: document 01's number of its answer, and the session
-- judged a s work   the same of the opening, with what it left in the work area
use Rattle.std.specs.Prelude.{List, ℕ}
use Rattle.lists.specs.Part.{part}
use Rattle.answers.specs.Answer.{Answer}
use Rattle.answers.specs.Number.{answer_number}
use Rattle.parameters.specs.declared.Parameters.{Parameters}
use Rattle.layout.specs.Maxima.{most_message1, most_messages2, most_messages3}
use Rattle.verifier_phase.specs.declared.Phase.{Phase}
use Rattle.calls.specs.Verifier as spec
use Rattle.verifier.specs.declared.Verifier.{Verifier}
pub mod Laws

abbrev pub message2_place : ℕ
message2_place = 1_056

abbrev pub message3_place : ℕ
message3_place = 3_104

abbrev pub held_length : ℕ
held_length = 4_128

unfoldable pub message1_in : List ℕ → List ℕ
message1_in m = part m 0 most_message1

unfoldable pub message2_in : List ℕ → List ℕ
message2_in m = part m message2_place most_messages2

unfoldable pub message3_in : List ℕ → List ℕ
message3_in m = part m message3_place most_messages3

abbrev pub session : Phase → Parameters → ℕ → List ℕ → List ℕ → spec.Verifier
session f p runs m leaves = record {
  phase = f;
  parameters = p;
  runs = runs;
  message1 = message1_in m;
  message2 = message2_in m;
  message3 = message3_in m;
  leaves = leaves;
}

abbrev pub held : Verifier → spec.Verifier
held s = session s.phase s.parameters s.runs s.messages s.leaves

abbrev pub given : Answer → Verifier → spec.Outcome
given a s = record { answer = answer_number a; verifier = held s }

abbrev pub judged : Answer → Verifier → List ℕ → spec.Judged
judged a s work = record { answer = answer_number a; verifier = held s; work = work }
