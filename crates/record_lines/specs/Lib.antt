pub mod Writing
pub mod Fits
pub mod Reading
