pub mod Set
pub mod Sizes
pub mod Session
pub mod Prover
pub mod Verifier
pub mod Extract
