-- Checks in document 01's order: the first that fails gives the number.
--
-- check ok r rest     where the check fails, the refusal r; else what the rest says
-- checks cs           the checks in their order, each with its refusal; `Ok` where all pass
use Rattle.std.specs.Prelude.{Bool, true, false, List, [], ◌∷◌, Ok, Err}
use Rattle.answers.specs.declared.Refusal.{Refusal}
use Rattle.answers.specs.Answer.{Answer}
pub mod Laws

abbrev pub check : Bool → Refusal → Answer → Answer
check true r rest = rest
check false r rest = Err r

abbrev pub checks : List (Bool × Refusal) → Answer
checks [] = Ok tt
checks (c ∷ cs) = check c.0 c.1 (checks cs)
