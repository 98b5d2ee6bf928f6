pub mod Limits
pub mod Set
