-- The lines are four.
use Rattle.std.proofs.Common.{refl}
use Rattle.keytext.proofs.form.all_lines.Goals as goal

pub returns : goal.returns
returns c = refl
