-- What is shown of the sessions that a verifier's calls reach.
pub mod Laws
pub mod Moves
