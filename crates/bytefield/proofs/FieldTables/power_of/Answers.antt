-- The entry that is read, by the table's rule.
use Rattle.std.proofs.Common.{List, ap, get_or, ℕ, ◌+◌, ◌∙◌}
use Rattle.bytefield.specs.Tables.{tables-power}
use Rattle.bytefield.proofs.Laws.Powers.{powers-at}
use Rattle.bytefield.proofs.FieldTables.power_of.Goals as goal

pub returns : goal.returns
returns c =
    ap (λ (l : List ℕ). get_or l (256 + c.args.i) 0) c.args.self.now.as_defined ∙ tables-power c.args.i ∙ powers-at c.args.i c.requires
