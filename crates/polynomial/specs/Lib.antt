pub mod Sums
pub mod Division
pub mod Bytes
pub mod Interpolant
pub mod Loops
