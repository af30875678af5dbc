pub mod Tally
pub mod Orders
