-- The laws about Reading.
pub mod Laws
