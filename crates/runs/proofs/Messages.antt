-- The laws about Messages.
pub mod Laws
