-- Each return has the tests that the definition is made of.
use Rattle.std.proofs.Common.{eq-eqb, ne_eqb}
use Rattle.layout.specs.Lent.{lent}
use Rattle.prover.specs.Arguments.{begin_tests}
use Rattle.prover.proofs.arguments.begin_lengths.Goals as goal

pub returns-then-others-message1_length : goal.returns-then-others-message1_length
unfolding lent begin_tests
returns-then-others-message1_length c = let a = eq-eqb _ _ c.if-others-eq16.true in
    rw (eq-eqb _ _ c.if-x_a-p.true, eq-eqb _ _ c.if-others-eq32.true, a, ← c.message1_length.ensures, eq-eqb _ _ c.if-others-message1_length.true) c.lent.ensures

pub returns-else-others-message1_length : goal.returns-else-others-message1_length
unfolding begin_tests
returns-else-others-message1_length c = let a = eq-eqb _ _ c.if-others-eq16.true in
    rw (eq-eqb _ _ c.if-x_a-p.true, eq-eqb _ _ c.if-others-eq32.true, a, ← c.message1_length.ensures, ne_eqb _ _ c.if-others-message1_length.false)

pub returns-else-others-eq16 : goal.returns-else-others-eq16
unfolding begin_tests
returns-else-others-eq16 c = rw (eq-eqb _ _ c.if-x_a-p.true, eq-eqb _ _ c.if-others-eq32.true, ne_eqb _ _ c.if-others-eq16.false)

pub returns-else-others-eq32 : goal.returns-else-others-eq32
unfolding begin_tests
returns-else-others-eq32 c = rw (eq-eqb _ _ c.if-x_a-p.true, ne_eqb _ _ c.if-others-eq32.false)

pub returns-else-x_a-p : goal.returns-else-x_a-p
unfolding begin_tests
returns-else-x_a-p c = rw (ne_eqb _ _ c.if-x_a-p.false)
