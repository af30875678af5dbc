pub mod Network
pub mod Fits
pub mod Executions
pub mod Lives
pub mod Samples
pub mod Opens
