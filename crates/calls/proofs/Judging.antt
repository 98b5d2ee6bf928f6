-- What is shown of judging an opening.
pub mod Laws
