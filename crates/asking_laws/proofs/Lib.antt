pub mod Calls
pub mod Walked
pub mod Law
pub mod Runs
pub mod Worked
