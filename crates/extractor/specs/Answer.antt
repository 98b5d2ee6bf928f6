-- Document 01's number and values for each answer of the extractor.
--
-- extraction_answer e    the number of the refusal; run, layer and number of the first unequal pair; run and axis that the answer names
use Rattle.std.specs.Prelude.{Result, Ok, Err}
use Rattle.answers.specs.declared.Refusal.{Refusal}
use Rattle.answers.specs.Number.{refusal_number}
use Rattle.calls.specs.Extractor.{Answer, refused, pair, filled}
use Rattle.extractor.specs.declared.findings.Extraction.{Extraction}
use Rattle.extractor.specs.declared.findings.Extraction.TheVariants.{Unequal, Extracted}
pub mod Laws

abbrev pub extraction_answer : Result Extraction Refusal → Answer
extraction_answer (Err r) = refused (refusal_number r)
extraction_answer (Ok (Unequal run layer number)) = pair run layer number
extraction_answer (Ok (Extracted run axis)) = filled run axis
