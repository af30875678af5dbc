pub mod Waiting
pub mod Next
