pub mod Lengths
pub mod Rotation
pub mod Rotl
