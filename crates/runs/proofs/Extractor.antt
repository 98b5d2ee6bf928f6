-- The laws about Extractor.
pub mod Laws
pub mod Output
pub mod Unequal
