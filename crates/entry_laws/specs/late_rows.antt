pub mod Late
pub mod Announced
pub mod Runs
