-- The three fields are those of the definition; what is skipped is at most the leaf's number (`skipped-least`).
use Rattle.std.proofs.Common.{arith, ℕ, ◌*◌, ◌+◌, ◌-◌, ◌/◌}
use Rattle.seedtree.specs.declared.nodes.Way.{Way}
use Rattle.seedtree.specs.Way.{next}
use Rattle.seedtree.specs.Way.Laws.{side-le, skipped-least}
use Rattle.seedtree.proofs.nodes.Way.next.Goals as goal

at : Way → ℕ → ℕ → Way
at w side skipped = record { node = 2 * w.node + side; leaf = w.leaf - skipped; size = w.size / 2 }

pub overflow_add-result : goal.overflow_add-result
overflow_add-result c = omega (arith, c.side-side.ensures, side-le c.args.self)

pub overflow_sub-result : goal.overflow_sub-result
overflow_sub-result c = omega (arith, c.skipped-skipped.ensures, skipped-least c.args.self)

pub returns : goal.returns
unfolding next at
returns c = λ t. at c.args.self (c.side-side.ensures t) (c.skipped-skipped.ensures t)
