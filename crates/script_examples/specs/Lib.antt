pub mod Samples
pub mod Opens
