pub mod Product
pub mod Tables
pub mod Powers
pub mod Inverse
pub mod Byte
