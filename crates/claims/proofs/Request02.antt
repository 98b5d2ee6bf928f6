-- Request 02 is met.
pub mod Theorem
