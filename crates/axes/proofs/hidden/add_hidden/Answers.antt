-- A leaf below n is hidden; no other number hides one.
use Rattle.std.proofs.Common.{arith, le-ltb, lt-ltb, refl}
use Rattle.layout.specs.Layout.{leaves}
use Rattle.axes.specs.Row.{with_hidden}
use Rattle.axes.proofs.hidden.add_hidden.Goals as goal

pub returns-then-hidden_leaf-leaf_count : goal.returns-then-hidden_leaf-leaf_count
unfolding with_hidden
returns-then-hidden_leaf-leaf_count c = let a = c.args in
    rw (lt-ltb a.hidden_leaf (leaves a.p) (omega (arith, c.if-hidden_leaf-leaf_count.true, c.leaf_count.ensures))) c.xor_into.ensures

pub returns-else-hidden_leaf-leaf_count : goal.returns-else-hidden_leaf-leaf_count
unfolding with_hidden
returns-else-hidden_leaf-leaf_count c = let a = c.args in
    rw (le-ltb a.hidden_leaf (leaves a.p) (omega (arith, c.if-hidden_leaf-leaf_count.false, c.leaf_count.ensures))) refl
