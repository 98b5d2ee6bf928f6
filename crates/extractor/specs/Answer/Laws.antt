-- The answers tell the cases apart.
--
-- kind a                 0 of a number, 1 of a pair, 2 of an axis
-- value a, other a, third a   the number or the run; the pair's layer or the axis; the pair's number
-- extractions-apart      different cases have different answers
use Rattle.std.specs.Prelude.{◌≡◌, refl, ℕ, Result, Ok, Err}
use Rattle.std.proofs.Common.{ap, ap₂, ◌∙◌}
use Rattle.std.proofs.lemmas.Bool.{eqb-false}
use Rattle.answers.specs.declared.Refusal.{Refusal}
use Rattle.answers.specs.Number.Laws.{refusals-apart}
use Rattle.calls.specs.Extractor.{Answer, refused, pair, filled}
use Rattle.extractor.specs.declared.findings.Extraction.{Extraction}
use Rattle.extractor.specs.declared.findings.Extraction.TheVariants.{Unequal, Extracted}
use Rattle.extractor.specs.Answer.{extraction_answer}

abbrev kind : Answer → ℕ
kind (refused n) = 0
kind (pair run layer number) = 1
kind (filled run axis) = 2

abbrev value : Answer → ℕ
value (refused n) = n
value (pair run layer number) = run
value (filled run axis) = run

abbrev other : Answer → ℕ
other (refused n) = 0
other (pair run layer number) = layer
other (filled run axis) = axis

abbrev third : Answer → ℕ
third (refused n) = 0
third (pair run layer number) = number
third (filled run axis) = 0

pub extractions-apart : (e e' : Result Extraction Refusal) → extraction_answer e ≡ extraction_answer e' → e ≡ e'
extractions-apart (Err r) (Err r') q = ap Err (refusals-apart r r' (ap value q))
extractions-apart (Ok (Unequal e l n)) (Ok (Unequal e' l' n')) q =
    ap₂ (λ (x y : ℕ). Ok (Unequal x y n)) (ap value q) (ap other q) ∙ ap (λ (z : ℕ). Ok (Unequal e' l' z)) (ap third q)
extractions-apart (Ok (Extracted e a)) (Ok (Extracted e' a')) q = ap₂ (λ (x y : ℕ). Ok (Extracted x y)) (ap value q) (ap other q)
extractions-apart (Err r) (Ok (Unequal e l n)) q = absurd (eqb-false 0 1 refl (ap kind q))
extractions-apart (Err r) (Ok (Extracted e a)) q = absurd (eqb-false 0 2 refl (ap kind q))
extractions-apart (Ok (Unequal e l n)) (Err r) q = absurd (eqb-false 1 0 refl (ap kind q))
extractions-apart (Ok (Unequal e l n)) (Ok (Extracted e' a)) q = absurd (eqb-false 1 2 refl (ap kind q))
extractions-apart (Ok (Extracted e a)) (Err r) q = absurd (eqb-false 2 0 refl (ap kind q))
extractions-apart (Ok (Extracted e a)) (Ok (Unequal e' l n)) q = absurd (eqb-false 2 1 refl (ap kind q))
