pub mod Wording
pub mod Words
pub mod Escapes
pub mod Answers
pub mod Counted
