pub mod Changes
pub mod Hearing
