-- Demand 2's last clause holds.
pub mod Calls
pub mod Reached
pub mod Sample
pub mod Sessions
