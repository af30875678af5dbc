pub mod State
pub mod Owners
pub mod Calls
pub mod HandOn
