pub mod Run
pub mod Messages
pub mod Points
pub mod Opening
pub mod Extractor
