-- The laws about the definitions of specs/.
pub mod Finish
pub mod Scan
