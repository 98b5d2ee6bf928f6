-- The laws about the definitions of specs/.
pub mod Phases
pub mod Same
