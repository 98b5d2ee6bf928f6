-- Each entry is the xor of the same five lanes on both sides.
use Rattle.std.proofs.Common.{refl}
use Rattle.keccak.proofs.steps.columns.Goals as goal

pub returns : goal.returns
returns c = refl
