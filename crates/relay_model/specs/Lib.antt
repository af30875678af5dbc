pub mod Leaving
pub mod Relays
pub mod Play
pub mod Limits
pub mod Settings
pub mod Samples
pub mod Opens
