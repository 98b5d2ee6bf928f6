pub mod Count
pub mod Expanded
pub mod Key
pub mod Lines
