-- The array is what the caller says of it.
use Rattle.bytefield.proofs.FieldTables.from_entries.Goals as goal

pub invariant_of-result : goal.invariant_of-result
invariant_of-result c = record { as_defined = c.requires }
