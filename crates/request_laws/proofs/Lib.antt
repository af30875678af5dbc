pub mod Sessions
pub mod Called
pub mod Fates
pub mod Law
pub mod Runs
pub mod Worked
