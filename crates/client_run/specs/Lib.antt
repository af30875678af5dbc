pub mod Turns
pub mod Running
pub mod Using
