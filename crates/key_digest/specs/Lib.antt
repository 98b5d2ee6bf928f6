pub mod KeyDigest
