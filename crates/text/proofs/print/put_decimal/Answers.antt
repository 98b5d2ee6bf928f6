-- One return for each number of digits (`put_one`, `put_two`, `put_three`).
use Rattle.std.proofs.Common.{arith, length-set}
use Rattle.text.specs.Decimal.Laws.{put_one, put_two, put_three}
use Rattle.text.proofs.print.put_decimal.Goals as goal

pub returns-then-n-lt10 : goal.returns-then-n-lt10
returns-then-n-lt10 c = put_one _ _ _ c.requires.1 c.digit.ensures c.if-n-lt10.true

pub bounds-out-at-then-n-lt100-2 : goal.bounds-out-at-then-n-lt100-2
bounds-out-at-then-n-lt100-2 c = simp length-set (omega arith)

pub shape_of-out-then-n-lt100 : goal.shape_of-out-then-n-lt100
shape_of-out-then-n-lt100 c = simp length-set

pub returns-then-n-lt100 : goal.returns-then-n-lt100
returns-then-n-lt100 c =
    put_two _ _ _ c.requires.1 c.digit-then-n-lt100.ensures c.digit-then-n-lt100-2.ensures c.if-n-lt10.false c.if-n-lt100.true

pub bounds-out-at-3 : goal.bounds-out-at-3
bounds-out-at-3 c = simp length-set (omega arith)

pub bounds-out-at-4 : goal.bounds-out-at-4
bounds-out-at-4 c = simp length-set (omega arith)

pub shape_of-out : goal.shape_of-out
shape_of-out c = simp length-set

pub returns : goal.returns
returns c =
    put_three _ _ _ c.requires.1 c.digit-2.ensures c.digit-3.ensures c.digit-4.ensures c.if-n-lt100.false
