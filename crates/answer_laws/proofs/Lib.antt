pub mod Told
pub mod Order
pub mod Law
pub mod Runs
