pub mod Runs
pub mod Arrivals
pub mod Plays
pub mod Limits
pub mod Laws
