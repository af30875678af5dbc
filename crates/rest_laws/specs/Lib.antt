pub mod Leaders
pub mod Runs
pub mod Samples
