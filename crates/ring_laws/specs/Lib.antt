pub mod Missed
pub mod Deaths
pub mod Samples
