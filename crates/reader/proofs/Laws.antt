-- The laws about the definitions of specs/.
pub mod Message5
pub mod Opening
pub mod Taken
