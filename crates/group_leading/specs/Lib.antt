pub mod Closing
pub mod Waiting
pub mod Working
