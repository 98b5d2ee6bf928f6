use Rattle.std.proofs.Common.{arith, refl, sym, ◌∙◌}
use Rattle.lists.specs.Equal.Laws.{eq_list-more, eq_list-stop, eq_list-end, eq_list-length}
use Rattle.lists.proofs.equal.Goals as goal

pub returns-then-a-b : goal.returns-then-a-b
returns-then-a-b c = sym (eq_list-length _ _ c.if-a-b.true)

pub loop-i-init : goal.loop-i-init
loop-i-init c = (c.if-a-b.false, refl)

pub returns-then-x-b : goal.returns-then-x-b
returns-then-x-b c =
    let a = c.args in
    sym (c.loop-i.invariant.1 ∙ eq_list-stop a.a.now a.b.now c.loop-i.i (omega arith) (omega arith) c.if-x-b.true)

pub loop-i-preserved : goal.loop-i-preserved
loop-i-preserved c =
    let a = c.args in
    (c.loop-i.invariant.0, c.loop-i.invariant.1 ∙ eq_list-more a.a.now a.b.now c.loop-i.i (omega arith) (omega arith) c.if-x-b.false)

pub returns : goal.returns
returns c =
    let a = c.args in
    sym (c.loop-i.invariant.1 ∙ eq_list-end a.a.now a.b.now c.loop-i.i (omega arith) (omega arith))
