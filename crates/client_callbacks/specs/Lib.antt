pub mod Ballots
pub mod Handed
pub mod Votes
pub mod Kinds
