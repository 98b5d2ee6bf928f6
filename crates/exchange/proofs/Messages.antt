-- The laws about Messages.
pub mod Agreement
pub mod Laws
pub mod Opened
pub mod Sum
