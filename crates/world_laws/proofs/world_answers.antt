pub mod Words
pub mod Grown
pub mod Waits
pub mod Limits
pub mod Adding
pub mod Going
pub mod Worded
