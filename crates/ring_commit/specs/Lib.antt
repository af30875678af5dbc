pub mod Gather
pub mod Closing
