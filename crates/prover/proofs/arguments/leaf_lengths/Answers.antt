-- Each return has the tests that the definition is made of.
use Rattle.std.proofs.Common.{arith, eq-eqb, ne_eqb}
use Rattle.layout.specs.Lent.{lent}
use Rattle.prover.proofs.arguments.leaf_lengths.Goals as goal

pub messages5_length-requires : goal.messages5_length-requires
messages5_length-requires c = (c.requires.within, omega (arith, c.if-leaves-runs.true, c.requires.counted.most))

pub returns-then-out-messages5_length : goal.returns-then-out-messages5_length
unfolding lent
returns-then-out-messages5_length c = rw (eq-eqb _ _ c.if-leaves-runs.true, ← c.messages5_length.ensures, eq-eqb _ _ c.if-out-messages5_length.true) c.lent.ensures

pub returns-else-out-messages5_length : goal.returns-else-out-messages5_length
returns-else-out-messages5_length c = rw (eq-eqb _ _ c.if-leaves-runs.true, ← c.messages5_length.ensures, ne_eqb _ _ c.if-out-messages5_length.false)

pub returns-else-leaves-runs : goal.returns-else-leaves-runs
returns-else-leaves-runs c = rw (ne_eqb _ _ c.if-leaves-runs.false)
