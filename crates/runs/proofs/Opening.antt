-- The laws about Opening.
pub mod Laws
