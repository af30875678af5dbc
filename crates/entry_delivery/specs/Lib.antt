pub mod Doing
pub mod Telling
pub mod Received
