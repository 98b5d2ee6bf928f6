pub mod Layout
pub mod Lent
pub mod Maxima
pub mod Runs
