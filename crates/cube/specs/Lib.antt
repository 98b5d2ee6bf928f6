pub mod Group
pub mod Sum
pub mod Party
pub mod Opening
