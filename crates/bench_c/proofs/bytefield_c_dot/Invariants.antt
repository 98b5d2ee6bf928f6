-- The loop's invariant: the total with the sum of the products of what is left is the whole sum.
use Rattle.std.proofs.Common.{◌≡◌}
use Rattle.lists.specs.Xor.{◌⊕◌}
use Rattle.bench_c.specs.Dot.{dot}
use Rattle.bench_c.proofs.bytefield_c_dot.Given as goal

abbrev pub invariant-loop-x : goal.invariant-loop-x
invariant-loop-x l = l.total ⊕ dot l.x-iterator.a.rest.now l.x-iterator.b.rest.now ≡ dot l.a l.b
