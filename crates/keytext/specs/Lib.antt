pub mod Finish
pub mod Form
pub mod Listing
pub mod Scan
