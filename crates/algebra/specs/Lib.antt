pub mod Operations
pub mod Ring
pub mod Field
pub mod Extension
pub mod Each
pub mod Marks
pub mod Polynomial
pub mod Weight
