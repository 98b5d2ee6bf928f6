-- What the code gives, in the words of the definition of the call (crate `calls`).
--
-- given r out work     what the function returned, as document 01's answer, and left in output and work area
use Rattle.std.specs.Prelude.{List, ℕ, Result}
use Rattle.answers.specs.declared.Refusal.{Refusal}
use Rattle.calls.specs.Extractor.{Outcome}
use Rattle.extractor.specs.declared.findings.Extraction.{Extraction}
use Rattle.extractor.specs.Answer.{extraction_answer}
pub mod Laws

abbrev pub given : Result Extraction Refusal → List ℕ → List ℕ → Outcome
given r out work = record { answer = extraction_answer r; out = out; work = work }
