pub mod Passed
pub mod Entering
pub mod Causes
