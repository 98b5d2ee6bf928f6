-- The laws about the definitions of specs/.
pub mod Buffer
pub mod Parts
pub mod Prover
pub mod Verifier
