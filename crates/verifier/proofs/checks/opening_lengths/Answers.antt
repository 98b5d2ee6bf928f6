-- Message 5's length first, then those that every call with a matrix asks.
use Rattle.std.proofs.Common.{eq-eqb, ne_eqb}
use Rattle.layout.specs.Lent.{lent}
use Rattle.verifier.proofs.checks.opening_lengths.Goals as goal

pub returns-then-message5-messages5_length : goal.returns-then-message5-messages5_length
unfolding lent
returns-then-message5-messages5_length c = rw (← c.messages5_length.ensures, eq-eqb _ _ c.if-message5-messages5_length.true) c.lent.ensures

pub returns-else-message5-messages5_length : goal.returns-else-message5-messages5_length
returns-else-message5-messages5_length c = rw (← c.messages5_length.ensures, ne_eqb _ _ c.if-message5-messages5_length.false)
