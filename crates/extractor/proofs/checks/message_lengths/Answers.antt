-- Each return has the tests that the definition is made of.
use Rattle.std.proofs.Common.{eq-eqb, ne_eqb, sym}
use mathlib.Core.Bool.{and-true}
use Rattle.extractor.proofs.checks.message_lengths.Goals as goal

pub returns-then-t-runs : goal.returns-then-t-runs
returns-then-t-runs c = rw (
  ← c.message1_length.ensures,
  eq-eqb _ _ c.if-t-message1_length.true,
  ← c.messages2_length.ensures,
  eq-eqb _ _ c.if-t-messages2_length.true,
  ← c.messages3_length.ensures,
  eq-eqb _ _ c.if-t-messages3_length.true,
  eq-eqb _ _ c.if-t-runs.true,
  ← c.messages5_length.ensures,
) (sym (and-true _))

pub returns-else-t-runs : goal.returns-else-t-runs
returns-else-t-runs c = rw (
  ← c.message1_length.ensures,
  eq-eqb _ _ c.if-t-message1_length.true,
  ← c.messages2_length.ensures,
  eq-eqb _ _ c.if-t-messages2_length.true,
  ← c.messages3_length.ensures,
  eq-eqb _ _ c.if-t-messages3_length.true,
  ne_eqb _ _ c.if-t-runs.false,
)

pub returns-else-t-messages3_length : goal.returns-else-t-messages3_length
returns-else-t-messages3_length c = rw (
  ← c.message1_length.ensures,
  eq-eqb _ _ c.if-t-message1_length.true,
  ← c.messages2_length.ensures,
  eq-eqb _ _ c.if-t-messages2_length.true,
  ← c.messages3_length.ensures,
  ne_eqb _ _ c.if-t-messages3_length.false,
)

pub returns-else-t-messages2_length : goal.returns-else-t-messages2_length
returns-else-t-messages2_length c = rw (← c.message1_length.ensures, eq-eqb _ _ c.if-t-message1_length.true, ← c.messages2_length.ensures, ne_eqb _ _ c.if-t-messages2_length.false)

pub returns-else-t-message1_length : goal.returns-else-t-message1_length
returns-else-t-message1_length c = rw (← c.message1_length.ensures, ne_eqb _ _ c.if-t-message1_length.false)
