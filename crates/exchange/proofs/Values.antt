-- The laws about Values.
pub mod Laws
pub mod Relation
