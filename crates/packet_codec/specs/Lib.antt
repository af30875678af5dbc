pub mod Datagram
pub mod InPlace
pub mod Spelled
