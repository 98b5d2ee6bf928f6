-- The laws about Leaf.
pub mod Laws
