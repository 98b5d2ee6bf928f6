-- What is shown of the extractor's call.
pub mod Told
