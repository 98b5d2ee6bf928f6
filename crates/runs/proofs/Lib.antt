pub mod Extractor
pub mod Messages
pub mod Opening
pub mod Points
