pub mod Parcels
pub mod Leaving
pub mod Datagrams
pub mod Sending
