pub mod Ghost
pub mod Tied
pub mod Rules
pub mod Runs
