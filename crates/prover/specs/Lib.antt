pub mod Arguments
pub mod Carried
pub mod Checks
pub mod Facts
pub mod Held
pub mod Next
