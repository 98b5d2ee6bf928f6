pub mod Counted
pub mod Dot
