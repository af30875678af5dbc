pub mod Due
pub mod Law
pub mod Runs
pub mod Worked
