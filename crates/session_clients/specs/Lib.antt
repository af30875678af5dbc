pub mod Clients
pub mod Notices
