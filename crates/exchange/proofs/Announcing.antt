-- The laws about Announcing.
pub mod Laws
