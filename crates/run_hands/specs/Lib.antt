pub mod Hands
pub mod Logs
