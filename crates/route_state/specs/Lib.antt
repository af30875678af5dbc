pub mod Envelope
pub mod Way
pub mod Relaying
pub mod Samples
pub mod Opens
