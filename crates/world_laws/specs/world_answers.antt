pub mod Answers
pub mod Plays
pub mod Limits
pub mod Laws
