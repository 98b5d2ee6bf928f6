-- The laws about the definitions of specs/.
pub mod Cancel
pub mod Classes
pub mod Complement
pub mod Division
pub mod Interpolating
pub mod Loops
pub mod Shares
pub mod Vanishing
pub mod Words
