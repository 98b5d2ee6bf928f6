pub mod Xor
pub mod Lanes
pub mod Sponges
pub mod Turns
pub mod Blocks
pub mod Laws
