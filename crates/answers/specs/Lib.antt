pub mod Answer
pub mod Number
pub mod Checks
pub mod Order
