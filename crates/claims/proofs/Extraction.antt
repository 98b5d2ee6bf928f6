-- Demand 3's first half holds.
pub mod Compared
pub mod Leaves
pub mod Output
pub mod Theorem
pub mod Relation
pub mod Runs
pub mod Strings
pub mod Sums
