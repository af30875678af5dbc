pub mod Basing
pub mod Comings
pub mod States
