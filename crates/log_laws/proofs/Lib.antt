pub mod Kept
pub mod Past
pub mod Law
pub mod Writing
pub mod Ups
pub mod Groups
pub mod Runs
pub mod Worked
