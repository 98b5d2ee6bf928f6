-- What is shown of the prover's calls.
pub mod AnySession
pub mod Checked
pub mod Reached
pub mod Runs
pub mod Settled
pub mod Told
