-- The product fits, since both factors are bounded.
use Rattle.std.proofs.Common.{ap, arith, ℕ, ◌*◌}
use Rattle.layout.specs.Runs.Laws.{messages2-most}
use Rattle.layout.proofs.runs.messages2_length.Goals as goal

pub overflow_mul-result : goal.overflow_mul-result
overflow_mul-result c = omega (arith, messages2-most _ c.requires.0 c.args.runs c.requires.1, ap (λ (n : ℕ). c.args.runs * n) c.message2_length.ensures)

pub returns : goal.returns
returns c = ap (λ (n : ℕ). c.args.runs * n) c.message2_length.ensures
