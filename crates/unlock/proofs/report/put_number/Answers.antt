-- Below 1,000 it is a decimal of three digits at most; else that of its thousands, and the three digits of the rest behind.
use Rattle.std.proofs.Common.{arith, ◌/◌}
use Rattle.keytext.specs.Listing.Laws.{length-decimal_text}
use Rattle.unlock.specs.Lines.Laws.{number-three, number-six}
use Rattle.unlock.proofs.report.put_number.Goals as goal

pub returns-then-n-lt1000 : goal.returns-then-n-lt1000
returns-then-n-lt1000 c = number-three c.args.out.now c.args.at c.args.n c.if-n-lt1000.true c.put_decimal.ensures.0 c.put_decimal.ensures.1

pub put-requires : goal.put-requires
put-requires c = omega (arith, length-decimal_text (c.args.n / 1_000), c.put_decimal-a.ensures.0, c.put_decimal-a.auto.out)

pub returns : goal.returns
returns c = number-six c.args.out.now c.args.at c.args.n (omega arith) c.requires.1 c.put_decimal-a.ensures.0 c.put_decimal-a.ensures.1
    c.put.ensures
