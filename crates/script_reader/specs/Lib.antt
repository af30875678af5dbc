pub mod Said
pub mod Clients
pub mod Faults
pub mod Reading
pub mod CallLines
pub mod ClientScript
pub mod CallTexts
