pub mod Answers
pub mod Joining
pub mod Pieces
pub mod Slots
