-- What is shown of lengths and leaves.
pub mod Laws
