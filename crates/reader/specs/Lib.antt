pub mod Message5
pub mod Taken
pub mod Opening
