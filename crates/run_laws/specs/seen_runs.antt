pub mod Seen
pub mod Rings
pub mod Once
pub mod Law
