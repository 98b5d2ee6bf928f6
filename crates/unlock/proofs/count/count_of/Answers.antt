-- The cases are the definition's.
use Rattle.std.proofs.Common.{arith, eq-eqb, le-ltb, lt-ltb, ne_eqb, ◌∙◌}
use Rattle.unlock.specs.Count.{count_of}
use Rattle.unlock.proofs.count.count_of.Goals as goal

pub returns-in-0-to-1 : goal.returns-in-0-to-1
unfolding count_of
returns-in-0-to-1 c = rw (lt-ltb c.args.arguments 2 (omega arith))

pub returns-in-2 : goal.returns-in-2
unfolding count_of
returns-in-2 c = c.named.ensures ∙ rw (le-ltb c.args.arguments 2 (omega arith), eq-eqb c.args.arguments 2 (omega arith))

pub returns-in_default : goal.returns-in_default
unfolding count_of
returns-in_default c = rw (le-ltb c.args.arguments 2 (omega arith), ne_eqb c.args.arguments 2 (omega arith))
