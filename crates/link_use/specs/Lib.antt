pub mod Receiving
pub mod Stops
