-- The laws about Field.
pub mod Laws
