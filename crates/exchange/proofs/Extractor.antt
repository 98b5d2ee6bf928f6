-- The laws about Extractor.
pub mod Laws
