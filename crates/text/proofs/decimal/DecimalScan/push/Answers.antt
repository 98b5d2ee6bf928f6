-- Each return follows from the tests that led to it: one that fails breaks the field, all together take the digit.
use Rattle.std.proofs.Common.{eq-eqb, le-leb, le-ltb, leb, leb-true, lt-ltb, ne_eqb, sym, ◌∙◌}
use borrow.Author.Tests.{lt-leb}
use Rattle.lists.specs.Checks.Laws.{and_left}
use Rattle.text.specs.Decimal.{is_digit}
use Rattle.text.specs.Scanner.Decimal.{decimal_step}
use Rattle.text.proofs.decimal.DecimalScan.push.Goals as goal
use Rattle.text.proofs.decimal.DecimalScan.push.Goals.{then-not-is_digit-via-then-not-is_digit, then-not-is_digit-via-else-not-is_digit+then-self-limit, then-not-is_digit-via-else-not-is_digit+else-self-limit+then-self, then-not-is_digit-via-else-not-is_digit+else-self-limit+else-self+then-self-gt99999999}

pub returns-then-not-is_digit : goal.returns-then-not-is_digit
unfolding decimal_step
returns-then-not-is_digit c =
    c.broken.ensures
    ∙ elim c.then-not-is_digit.branch [
      | then-not-is_digit-via-then-not-is_digit w ↦ rw (sym c.is_digit.ensures ∙ w.if-not-is_digit.true)
      | then-not-is_digit-via-else-not-is_digit+then-self-limit w ↦
          rw (sym c.is_digit.ensures ∙ w.if-not-is_digit.false, le-ltb _ _ w.if-self-limit.true)
      | then-not-is_digit-via-else-not-is_digit+else-self-limit+then-self w ↦
          rw (sym c.is_digit.ensures ∙ w.if-not-is_digit.false, lt-ltb _ _ w.if-self-limit.false, w.if-self.true)
      | then-not-is_digit-via-else-not-is_digit+else-self-limit+else-self+then-self-gt99999999 w ↦
          rw (sym c.is_digit.ensures ∙ w.if-not-is_digit.false, lt-ltb _ _ w.if-self-limit.false, w.if-self.false, lt-leb _ _ w.if-self-gt99999999.true)
    ]

pub overflow_sub-b : goal.overflow_sub-b
unfolding is_digit
overflow_sub-b c =
    let b = c.args.b in
    leb-true 48 b (and_left (leb 48 b) (leb b 57) (sym c.is_digit.ensures ∙ c.if-not-is_digit.false))

pub returns-then-self-eq0 : goal.returns-then-self-eq0
unfolding decimal_step
returns-then-self-eq0 c =
    rw (
      sym c.is_digit.ensures ∙ c.if-not-is_digit.false,
      lt-ltb _ _ c.if-self-limit.false,
      c.if-self.false,
      le-leb _ _ c.if-self-gt99999999.false,
      eq-eqb _ _ c.if-self-eq0.true,
      c.from.ensures,
    )

pub returns-else-self-eq0 : goal.returns-else-self-eq0
unfolding decimal_step
returns-else-self-eq0 c =
    rw (
      sym c.is_digit.ensures ∙ c.if-not-is_digit.false,
      lt-ltb _ _ c.if-self-limit.false,
      c.if-self.false,
      le-leb _ _ c.if-self-gt99999999.false,
      ne_eqb _ _ c.if-self-eq0.false,
      c.from.ensures,
    )
