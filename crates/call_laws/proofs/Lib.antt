pub mod Kin
pub mod Walked
pub mod Outcomes
pub mod Law
pub mod Runs
pub mod Worked
pub mod Records
