-- The laws that rest on the tables.
pub mod Powers
pub mod Inverse
pub mod Field
