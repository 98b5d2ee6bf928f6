-- The laws about Announcing.
pub mod Strings
