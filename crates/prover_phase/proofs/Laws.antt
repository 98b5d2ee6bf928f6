-- The laws about the definitions of specs/.
pub mod Distance
pub mod Phases
pub mod Same
