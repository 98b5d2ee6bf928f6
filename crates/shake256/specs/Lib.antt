pub mod Bytes
pub mod Fips
pub mod Stream
pub mod Turns
