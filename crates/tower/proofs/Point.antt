-- The laws about Point.
pub mod Laws
pub mod Steps
pub mod Written
