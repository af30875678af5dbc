pub mod Digest
pub mod Opens
