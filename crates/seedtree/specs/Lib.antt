pub mod Laid
pub mod Levels
pub mod Opened
pub mod Shapes
pub mod Siblings
pub mod Way
pub mod Writes
