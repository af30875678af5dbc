pub mod Ballots
pub mod Single
