-- A remainder is no larger than the byte.
use Rattle.std.proofs.Common.{arith}
use native.Mathlib.Nat.{mod-le}
use Rattle.unlock.proofs.default_key.remainder.Goals as goal

pub overflow_cast-result-2 : goal.overflow_cast-result-2
overflow_cast-result-2 c = omega (arith, mod-le c.args.b c.args.n)
