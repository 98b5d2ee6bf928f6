pub mod Lengths
pub mod Judging
pub mod Prover
pub mod Verifier
pub mod Extractor
