pub mod Node
pub mod Event
pub mod Parts
pub mod Sends
