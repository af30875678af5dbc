pub mod Voters
pub mod Changes
pub mod Room
pub mod Samples
