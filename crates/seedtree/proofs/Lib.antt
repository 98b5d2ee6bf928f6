pub mod Lent
pub mod Children
