pub mod Buffer
pub mod Parameters
pub mod Prover
pub mod Verifier
