pub mod StandIn
pub mod Definitions
