pub mod Same
pub mod Handing
