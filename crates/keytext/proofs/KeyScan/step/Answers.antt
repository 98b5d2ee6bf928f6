-- One return for each kind of byte (`step_line`, `step_field`, `step-byte`).
use Rattle.std.proofs.Common.{arith}
use Rattle.keytext.proofs.Laws.Scan.Steps.{step_line, step_field, step-byte}
use Rattle.keytext.proofs.KeyScan.step.Goals as goal

pub returns-in-10 : goal.returns-in-10
returns-in-10 c = step_line _ _ (omega arith) c.line_end.ensures

pub returns-in-9 : goal.returns-in-9
returns-in-9 c = step_field _ _ (omega arith) (omega arith) c.field_end.ensures

pub returns-in_default : goal.returns-in_default
returns-in_default c = step-byte _ _ (omega arith) (omega arith) c.byte.ensures
