-- The laws about Points.
pub mod Laws
pub mod Distinct
