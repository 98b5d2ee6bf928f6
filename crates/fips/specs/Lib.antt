pub mod Tables
pub mod Steps
pub mod Permutation
pub mod Parameters
pub mod Bytes
pub mod Shake256
