-- The laws about Tree.
pub mod Laws
