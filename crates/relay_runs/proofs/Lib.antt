pub mod Waits
pub mod Arriving
pub mod Grown
pub mod Limits
pub mod Adding
pub mod Going
pub mod Worded
