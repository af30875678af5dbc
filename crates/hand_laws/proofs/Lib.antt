pub mod Adding
pub mod Sessions
pub mod Calls
pub mod Handings
pub mod Nodes
pub mod Along
