-- What is shown of the verifier's calls.
pub mod Kept
pub mod Reached
pub mod Runs
pub mod Told
