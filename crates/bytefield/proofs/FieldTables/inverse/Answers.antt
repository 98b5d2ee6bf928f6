-- Where the byte is not 0, the power at 255 less its logarithm gives 1 with it, and only the inverse does.
use Rattle.std.proofs.Common.{arith, rules, sym, ◌≡◌}
use Rattle.bytefield.specs.Inverse.Laws.{inverse-zero}
use Rattle.bytefield.proofs.Laws.Inverse.{log-inverse}
use Rattle.bytefield.proofs.FieldTables.inverse.Goals as goal

pub returns-then-a-eq0 : goal.returns-then-a-eq0
returns-then-a-eq0 c = let e : c.args.a ≡ 0 = omega arith in rw e (sym inverse-zero)

pub returns : goal.returns
returns c = log-inverse _ _ _ (omega arith) (search rules) (omega arith) c.log_of.ensures.1 c.power_of.ensures
