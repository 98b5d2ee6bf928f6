-- The constant is the list of specs/Tables, entry by entry.
use Rattle.std.proofs.Common.{refl}
use Rattle.bytefield.specs.Tables.{logs, powers, field_tables}
use Rattle.bytefield.proofs.FieldTables.new.Goals as goal

pub invariant_of-result : goal.invariant_of-result
unfolding logs powers field_tables
invariant_of-result c = record { as_defined = refl }
