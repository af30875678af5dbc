pub mod Answers
pub mod Clients
