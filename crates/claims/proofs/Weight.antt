-- Demand 3's second half holds.
pub mod Common
pub mod Core
pub mod Light
pub mod Theorem
