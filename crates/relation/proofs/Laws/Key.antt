-- The laws about Key.
pub mod Vector
pub mod Positions
pub mod Polynomials
