pub mod Values
pub mod Entries
pub mod Ranges
pub mod Spelled
