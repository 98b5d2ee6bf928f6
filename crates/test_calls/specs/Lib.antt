pub mod Definitions
pub mod ProverCalls
pub mod ProverPoints
pub mod VerifierCalls
pub mod VerifierPoints
pub mod ExtractorCalls
pub mod ExtractorPoints
