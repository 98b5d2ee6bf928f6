-- Each return has the tests that the definition is made of.
use Rattle.std.proofs.Common.{eq-eqb, ne_eqb}
use Rattle.layout.specs.Lent.{lent}
use Rattle.prover.proofs.arguments.points_lengths.Goals as goal

pub returns-then-out-messages3_length : goal.returns-then-out-messages3_length
unfolding lent
returns-then-out-messages3_length c = rw (← c.messages2_length.ensures, eq-eqb _ _ c.if-message2-messages2_length.true, ← c.messages3_length.ensures, eq-eqb _ _ c.if-out-messages3_length.true) c.lent.ensures

pub returns-else-out-messages3_length : goal.returns-else-out-messages3_length
returns-else-out-messages3_length c = rw (← c.messages2_length.ensures, eq-eqb _ _ c.if-message2-messages2_length.true, ← c.messages3_length.ensures, ne_eqb _ _ c.if-out-messages3_length.false)

pub returns-else-message2-messages2_length : goal.returns-else-message2-messages2_length
returns-else-message2-messages2_length c = rw (← c.messages2_length.ensures, ne_eqb _ _ c.if-message2-messages2_length.false)
