pub mod Question
pub mod Waiting
pub mod Asked
