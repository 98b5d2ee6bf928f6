pub mod Added
pub mod Classes
pub mod Complement
pub mod Division
pub mod PowerSum
pub mod Sums
pub mod Words
