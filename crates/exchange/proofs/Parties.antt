-- The laws about Parties.
pub mod Cube
pub mod Laws
