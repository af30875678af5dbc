pub mod Passing
pub mod Views
pub mod Stays
pub mod Hearing
pub mod Passed
pub mod Walk
