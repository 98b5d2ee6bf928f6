-- By cases, as `wanted` is.
use Rattle.std.proofs.Common.{Bool, false, refl, true, ◌≡◌}
use mathlib.Core.Bool.{beq}
use Rattle.key.specs.Loops.Gather.{wanted, wanted-inside, wanted-outside}
use Rattle.key.proofs.is_wanted.Goals as goal

same : (inside hit : Bool) → beq inside hit ≡ wanted inside hit
same true true = wanted-inside true true refl
same true false = wanted-inside true false refl
same false true = wanted-outside false true refl
same false false = wanted-outside false false refl

pub returns : goal.returns
returns c = same _ _
