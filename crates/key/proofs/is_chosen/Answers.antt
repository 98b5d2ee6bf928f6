-- By cases, as `chosen` is.
use Rattle.std.proofs.Common.{arith, nat_eq, not, rules, true, ◌∙◌, ◌≡◌}
use Rattle.key.specs.Loops.Positions.{chosen-other, chosen-zero}
use Rattle.key.proofs.is_chosen.Goals as goal

pub returns-then-b-ne0 : goal.returns-then-b-ne0
returns-then-b-ne0 c = let yes : not (nat_eq c.args.b 0) ≡ true = search rules in yes ∙ chosen-other _ _ c.if-b-ne0.true

pub returns-else-b-ne0 : goal.returns-else-b-ne0
returns-else-b-ne0 c = chosen-zero _ _ (omega arith)
