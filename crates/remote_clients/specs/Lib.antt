pub mod Clients
pub mod Sessions
pub mod Entries
pub mod Told
pub mod Ending
pub mod Opens
