pub mod Asked
pub mod Columns
pub mod Groups
pub mod Imaged
pub mod Made
pub mod Shares
pub mod Spread
