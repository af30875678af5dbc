pub mod Messages
pub mod Daemon
pub mod Ending
pub mod Client
pub mod World
pub mod Laws
pub mod WorkedRows
