-- The test is the definition's, with the number of leaves from `leaf_count`.
use Rattle.std.proofs.Common.{ap, arith, eqb, pow_pos, ℕ, ◌-◌}
use Rattle.layout.specs.Layout.{levels, is_last}
use Rattle.layout.proofs.is_last.Goals as goal

pub overflow_sub-result : goal.overflow_sub-result
overflow_sub-result c = omega (arith, c.leaf_count.ensures, pow_pos (levels c.args.p))

pub returns : goal.returns
unfolding is_last
returns c = ap (λ (n : ℕ). eqb c.args.leaf (n - 1)) c.leaf_count.ensures
