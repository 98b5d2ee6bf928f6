-- The laws about Sequences.
pub mod Laws
