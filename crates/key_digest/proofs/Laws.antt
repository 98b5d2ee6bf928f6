-- The laws about the definitions of specs/.
pub mod KeyDigest
