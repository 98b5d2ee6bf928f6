-- Where not `first`, nothing is added.
use Rattle.std.proofs.Common.{sym}
use Rattle.lists.specs.Sum.Laws.{xor_list-nil}
use Rattle.coefficients.proofs.sidebyside.add_where.Goals as goal

pub returns-else-first : goal.returns-else-first
returns-else-first c = rw c.if-first.false (sym (xor_list-nil _))
