-- The laws about Scan.
pub mod Complete
pub mod Fields
pub mod Keeps
pub mod Steps
pub mod Values
