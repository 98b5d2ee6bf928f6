-- The laws about Opening.
pub mod Cube
pub mod Laws
