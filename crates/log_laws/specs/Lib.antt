pub mod Logs
pub mod Law
pub mod Samples
