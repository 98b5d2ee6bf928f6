-- A leaf below n has a party; no other number has one.
use Rattle.std.proofs.Common.{arith, sym, ◌∙◌}
use Rattle.axes.proofs.Laws.Row.{hidden-inside, hidden-outside}
use Rattle.axes.proofs.hidden.hidden_party.Goals as goal

pub returns-then-hidden_leaf-leaf_count : goal.returns-then-hidden_leaf-leaf_count
returns-then-hidden_leaf-leaf_count c = let a = c.args in c.coordinate.ensures
    ∙ sym (hidden-inside a.p a.hidden_leaf a.axis (omega (arith, c.if-hidden_leaf-leaf_count.true, c.leaf_count.ensures)))

pub returns : goal.returns
returns c = let a = c.args in
    c.side.ensures ∙ sym (hidden-outside a.p a.hidden_leaf a.axis (omega (arith, c.if-hidden_leaf-leaf_count.false, c.leaf_count.ensures)))
